-- What the costs of a path tell.
use Rattle.std.proofs.Common.{◌≡◌, ℕ, zero, suc, ◌+◌, ◌<◌, Bool, true, false, cond, if◌then◌else◌, List, [], ◌∷◌, map, length, Option, Some, None, IfSome, refl, sym, subst, slice_get}
use Rattle.std.specs.List.{AllByRecursion}
use Rattle.fx_elements.specs.Axes.{Fields}
use Rattle.fx_tables.specs.declared.observation.Occurrence.{Occurrence}
use Rattle.fx_tables.specs.declared.observation.Selection.{Selection}
use Rattle.fx_tables.specs.declared.traffic.Crossing.{Crossing}
use Rattle.fx_tables.specs.Network.{Net, Exporter, Point, DeviceEntry, points_of, exporters_of, named_by}
use Rattle.fx_base.specs.Entries.{entry_numbered}
use Rattle.fx_tables.specs.Occurrences.{selects, occurrence, met_by, watches, met_at, occurrences}
use Rattle.fx_machine.specs.Steps.{meet, crossing_acts}
use Rattle.fx_tables.specs.Ranks.{IsNetwork}
use Rattle.fx_leaf.specs.declared.verdict.Fate.{Fate}
use Rattle.fx_leaf.specs.declared.verdict.Fate.TheVariants.{Never}
use Rattle.fx_leaf.specs.Fates.{both}
use Rattle.fx_leaf.specs.Tables.{Numbering, Numbers, Tables, AreTables}
use Rattle.fx_leaf.proofs.FateLaws.{Every, every_append}
use Rattle.fx_steps.specs.Costs.{Tells, one_step_more}
use Rattle.fx_steps.specs.CostTables.{CostTable, cost_fill, holder_costs, occurrence_costs, path_costs}
use Rattle.fx_tables.specs.Runnable.{IsHolder, IsRunnable}
use Rattle.fx_steps.specs.Ways.{Comes, PacketComes, acts}
use Rattle.fx_steps.proofs.WholeNetworks.{whole, IsWhole, HasLinks, HasCaches}
use Rattle.fx_steps.proofs.CostsTell.{Both, both_tells, next_tells, never_tells}
use Rattle.fx_steps.proofs.HowWaysBegin.{Of, next_tells_acts}
use Rattle.fx_steps.proofs.EntriesTell.{HasCostsAt, GoodTo, GoodBy, no_acts_tell, held_tells}
use Rattle.fx_steps.proofs.FilledTables.{all_at, all_at_places, table_tells}

module _ (net : Net) (n : Numbering) (fields : Fields) (network : IsNetwork net) (numbers : Numbers net n)
    (whole : IsWhole net) (table : CostTable) (fate_costs : (q : ℕ) → HasCostsAt net n fields network numbers table q)
  where
    -- ---- all destinations are good

    good_to : (d : Option ℕ) → IfSome d (λ link. link < length net.links) → GoodTo net n fields network numbers table d
    good_to None lt = tt
    good_to (Some link) lt = (lt, λ q e. fate_costs q)

    all_good : (ds : List (Option ℕ)) → AllByRecursion (λ d. IfSome d (λ link. link < length net.links)) ds
        → Every (GoodTo net n fields network numbers table) ds
    all_good [] h = tt
    all_good (d ∷ ds) h = (good_to d h.0, all_good ds h.1)

    pub each_good : (es : List Exporter) → AllByRecursion (HasLinks net) es
        → Every (GoodBy net n fields network numbers table) es
    each_good [] h = tt
    each_good (e ∷ es) h = (all_good e.destinations h.0, each_good es h.1)

    -- ---- the caches that a packet meets are there

    abbrev HasCache : Selection → Type 0
    HasCache s = IfSome s.holder (IsHolder net)

    abbrev InCache : Occurrence → Type 0
    InCache o = IsHolder net o.holder

    one_met : (point process : ℕ) (o : Option ℕ) → IfSome o (IsHolder net) → Every InCache (occurrence point process o)
    one_met point process None h = tt
    one_met point process (Some holder) h = (h, tt)

    if_met : (b : Bool) (os : List Occurrence) → Every InCache os → Every InCache (cond b os [])
    if_met true os h = h
    if_met false os h = tt

    by_met : (point process : ℕ) (ss : List Selection) → AllByRecursion HasCache ss
        → Every InCache (met_by point process ss fields)
    by_met point process [] h = tt
    by_met point process (s ∷ ss) h =
        every_append InCache (if selects s.region fields then occurrence point process s.holder else [])
        (met_by point (process + 1) ss fields) (if_met (selects s.region fields) (occurrence point process s.holder)
        (one_met point process s.holder h.0)) (by_met point (process + 1) ss h.1)

    at_met : (number : ℕ) (ps : List Point) (c : Crossing)
        → AllByRecursion (λ (p : Point). AllByRecursion HasCache p.selections) ps
        → Every InCache (met_at number ps c fields)
    at_met number [] c h = tt
    at_met number (p ∷ ps) c h =
        every_append InCache (if watches p c then met_by number 1 p.selections fields else [])
        (met_at (number + 1) ps c fields) (if_met (watches p c) (met_by number 1 p.selections fields)
        (by_met number 1 p.selections h.0)) (at_met (number + 1) ps c h.1)

    of_device : (o : Option DeviceEntry) → ((d : DeviceEntry) → o ≡ Some d → HasCaches net d)
        → AllByRecursion (λ (p : Point). AllByRecursion HasCache p.selections) (points_of o)
    of_device None h = tt
    of_device (Some d) h = h d refl

    of_numbered : (k : ℕ) (d : DeviceEntry) → entry_numbered net.devices k ≡ Some d → HasCaches net d
    of_numbered zero d e = absurd (cc)
    of_numbered (suc k) d e = all_at (HasCaches net) net.devices k d whole.caches e

    pub caches_met : (c : Crossing) → Every InCache (occurrences net c fields)
    caches_met c = at_met 1 (points_of (entry_numbered net.devices c.device)) c
        (of_device (entry_numbered net.devices c.device) (λ d e. of_numbered c.device d e))

    -- ---- costs

    met_tell : (os : List Occurrence) → Every InCache os
        → Tells (occurrence_costs table net n os) (Of net (acts (map (meet net fields) os)))
    met_tell [] h = no_acts_tell net n fields network numbers table
    met_tell (o ∷ os) h =
        next_tells_acts net (meet net fields o) (map (meet net fields) os) (holder_costs table net n o.holder)
        (occurrence_costs table net n os) (held_tells net n fields network numbers table o.holder (
          h.0,
          each_good (exporters_of net (slice_get net.holders o.holder))
              (all_at_places (HasLinks net) net.exporters (named_by (slice_get net.holders o.holder)) whole.links),
        ))
        (met_tell os h.1)

    -- a crossing alone, by its own step
    abbrev Crosses : Crossing → Fate → ℕ → Type 0
    Crosses c f k = (m : ℕ) × Comes net (acts (crossing_acts net fields (Some c))) f m × (k ≡ suc m)

    crosses_tell : (c : Crossing) → Tells (one_step_more (occurrence_costs table net n (occurrences net c fields)))
        (Crosses c)
    crosses_tell c =
        next_tells (Of net (acts (crossing_acts net fields (Some c)))) (Crosses c)
        (occurrence_costs table net n (occurrences net c fields)) (met_tell (occurrences net c fields) (caches_met c))
        (λ f k x. x) (λ f k x. (k, x, refl))

    of_cross : {c : Crossing} {cs : List Crossing} {f : Fate} {k : ℕ} → PacketComes net fields (c ∷ cs) f k
        → Both (Crosses c) (PacketComes net fields cs) (PacketComes net fields (c ∷ cs)) f k
    of_cross (PacketComes.cross c cs f g m k d e) =
        record {
          first = f;
          second = g;
          here = suc m;
          there = k;
          one = (m, d, refl);
          other = e;
          fate = refl;
          steps =
              refl;
        }

    to_cross : (c : Crossing) (cs : List Crossing) (f g : Fate) (m k : ℕ) → Crosses c f m
        → PacketComes net fields cs g k
        → PacketComes net fields (c ∷ cs) (both f g) (m + k)
    to_cross c cs f g m k x e = subst (λ j. PacketComes net fields (c ∷ cs) (both f g) (j + k)) (sym x.2)
        (PacketComes.cross c cs f g x.0 k x.1 e)

    of_no_crossing : {f : Fate} {k : ℕ} → PacketComes net fields [] f k → f ≡ Never
    of_no_crossing PacketComes.no_crossing = refl

    pub path_tells : (cs : List Crossing) → Tells (path_costs table net n fields cs) (PacketComes net fields cs)
    path_tells [] = never_tells (PacketComes net fields []) PacketComes.no_crossing (λ f k c. of_no_crossing c)
    path_tells (c ∷ cs) =
        both_tells (Crosses c) (PacketComes net fields cs) (PacketComes net fields (c ∷ cs))
        (one_step_more (occurrence_costs table net n (occurrences net c fields))) (path_costs table net n fields cs)
        (crosses_tell c) (path_tells cs) (λ f k x. of_cross x) (λ f g m k x e. to_cross c cs f g m k x e)

pub least_tell : (t : Tables) (are : AreTables t) → IsRunnable t.net → (fields : Fields) (table : CostTable)
    → length table ≡ length t.net.processes → (path : List Crossing)
    → Tells (path_costs (cost_fill t.net t.numbering fields t.order table) t.net t.numbering fields path)
    (PacketComes t.net fields path)
least_tell t are is fields table size path =
    path_tells t.net t.numbering fields are.network are.numbers (whole t.net is)
    (cost_fill t.net t.numbering fields t.order table) (table_tells t are (whole t.net is) fields table size) path
