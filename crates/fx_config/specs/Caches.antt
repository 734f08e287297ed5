-- Caches (RFC 6728, sections 4.3 and 4.3.2).
use Rattle.std.specs.Prelude.{ℕ, List, [], ◌∷◌, codes, map, Bool, true, false, Option, Some, None, option_map, take, drop}
use Rattle.std.specs.Option.{unwrap_or}
use Rattle.serde_json.specs.Data.{Data}
use Rattle.serde_json.specs.Find.{get}
use Rattle.fx_walk.specs.Walk.{FoundFault, Row, object_faults, required_row, optional, member_of}
use Rattle.fx_walk.specs.Choice.{one_of}
use Rattle.fx_walk.specs.Lists.{entries, items_of, name_once}
use Rattle.fx_walk.specs.Scalars.{text_of, number_of, whole_faults}
use Rattle.fx_config.specs.CacheLayouts.{cache_layout_faults, cache_layout_of}
use Rattle.fx_config.specs.Limits.{entry_limit}
use Rattle.fx_config.specs.declared.cache.CacheKind.{CacheKind}
use Rattle.fx_config.specs.declared.cache.CacheKind.TheVariants.{Immediate, Timeout, Natural, Permanent}
use Rattle.fx_config.specs.declared.cache.Settings.{Settings}
use Rattle.fx_config.specs.declared.cache.Kind.{Kind}
use Rattle.fx_config.specs.declared.cache.Cache.{Cache}

-- ---- the settings of a kind of cache

abbrev pub settings_rows : Bool → List Row
settings_rows immediate =
    optional (codes "maxFlows") (whole_faults 0 0xffff_ffff)
    ∷ optional (codes "activeTimeout") (whole_faults 0 0xffff_ffff)
    ∷ optional (codes "idleTimeout") (whole_faults 0 0xffff_ffff)
    ∷ optional (codes "exportInterval") (whole_faults 0 0xffff_ffff)
    ∷ required_row (codes "cacheLayout") (cache_layout_faults immediate)
    ∷ []

abbrev pub settings_faults : Bool → List ℕ → Data → List FoundFault
settings_faults immediate = object_faults (settings_rows immediate)

-- the bound of a cache: 0 means unbounded
abbrev pub max_flows_given : Option ℕ → ℕ
max_flows_given number = unwrap_or number 0

abbrev pub settings_of : Bool → Data → Settings
settings_of immediate d = record {
  max_flows = max_flows_given (option_map number_of (get (codes "maxFlows") d));
  layout = cache_layout_of immediate (member_of (codes "cacheLayout") d);
}

abbrev pub of_kind : CacheKind → Settings → Kind
of_kind kind settings = record { kind = kind; max_flows = settings.max_flows; layout = settings.layout }

-- the kind of cache that is given
abbrev pub kind_given : Option Settings → Option Settings → Option Settings → Option Settings → Kind
kind_given (Some settings) timeout natural permanent = of_kind Immediate settings
kind_given None (Some settings) natural permanent = of_kind Timeout settings
kind_given None None (Some settings) permanent = of_kind Natural settings
kind_given None None None (Some settings) = of_kind Permanent settings
kind_given None None None None = record { kind = Permanent; max_flows = 0; layout = [] }

abbrev pub kind_in : Data → Kind
kind_in d = kind_given
    (option_map (settings_of true) (get (codes "immediateCache") d))
    (option_map (settings_of false) (get (codes "timeoutCache") d))
    (option_map (settings_of false) (get (codes "naturalCache") d))
    (option_map (settings_of false) (get (codes "permanentCache") d))

-- ---- caches

-- exactly one kind is given
abbrev pub cache_rows : List (List ℕ) → List Row
cache_rows earlier =
    required_row (codes "name") (name_once earlier)
    ∷ one_of (codes "immediateCache" ∷ codes "timeoutCache" ∷ codes "naturalCache" ∷ codes "permanentCache" ∷ [])
    ∷ optional (codes "immediateCache") (settings_faults true)
    ∷ optional (codes "timeoutCache") (settings_faults false)
    ∷ optional (codes "naturalCache") (settings_faults false)
    ∷ optional (codes "permanentCache") (settings_faults false)
    ∷ entries 0 entry_limit (codes "exportingProcess") name_once text_of
    ∷ []

abbrev pub kind_rows : List Row
kind_rows = take 5 (drop 1 (cache_rows []))

abbrev pub cache_faults : List (List ℕ) → List ℕ → Data → List FoundFault
cache_faults earlier = object_faults (cache_rows earlier)

abbrev pub cache_of : Data → Cache
cache_of d = record {
  name = text_of (member_of (codes "name") d);
  kind = (kind_in d).kind;
  max_flows = (kind_in d).max_flows;
  layout = (kind_in d).layout;
  exporting_processes = map text_of (items_of (member_of (codes "exportingProcess") d));
}
