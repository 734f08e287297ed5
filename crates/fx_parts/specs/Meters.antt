-- Whether a packet passes the same selection processes on two paths, as a decision.
use Rattle.std.specs.Prelude.{ℕ, Bool, true, false, is_some, ◌&&◌, ◌==◌, List, [], ◌∷◌, flat_map, length, zip, Option, Some, None, slice_get, if◌then◌else◌, bytes_eq}
use Rattle.std.specs.List.{list_all}
use Rattle.fx_boxes.specs.Boxes.{Bounds}
use Rattle.fx_tables.specs.declared.observation.Selection.{Selection}
use Rattle.fx_tables.specs.declared.traffic.Crossing.{Crossing}
use Rattle.fx_tables.specs.Network.{Net, Point, points_of}
use Rattle.fx_base.specs.Entries.{entry_numbered}
use Rattle.fx_tables.specs.Occurrences.{watches}
use Rattle.fx_parts.specs.Checks.{holders_alike}

-- a selection process that has a cache
abbrev pub cached : Selection → List Selection
cached s = if is_some s.holder then s ∷ [] else []

abbrev pub meters_at : Crossing → Point → List Selection
meters_at crossing point = if watches point crossing then flat_map cached point.selections else []

abbrev pub meters_of : Net → Crossing → List Selection
meters_of net crossing = flat_map (meters_at crossing) (points_of (entry_numbered net.devices crossing.device))

-- the selection processes with a cache that a packet on a path passes, in order
abbrev pub meters : Net → List Crossing → List Selection
meters net path = flat_map (meters_of net) path

abbrev pub same_numbers : List ℕ → List ℕ → Bool
same_numbers xs ys = bytes_eq xs ys

abbrev pub same_region : Option Bounds → Option Bounds → Bool
same_region None None = true
same_region (Some a) (Some b) = same_numbers a.low b.low && same_numbers a.high b.high
same_region _ _ = false

abbrev pub caches_alike : Net → Net → List ℕ → Option ℕ → Option ℕ → Bool
caches_alike part whole places (Some m) (Some n) =
    holders_alike part whole places (slice_get part.holders m) (slice_get whole.holders n)
caches_alike part whole places _ _ = false

abbrev pub selections_alike : Net → Net → List ℕ → Selection → Selection → Bool
selections_alike part whole places s t =
    same_region s.region t.region && caches_alike part whole places s.holder t.holder

abbrev pub each_selection_alike : Net → Net → List ℕ → List Selection → List Selection → Bool
each_selection_alike part whole places ss ts = list_all (λ x. selections_alike part whole places x.0 x.1) (zip ss ts)

abbrev pub all_selections_alike : Net → Net → List ℕ → List Selection → List Selection → Bool
all_selections_alike part whole places ss ts = length ss == length ts && each_selection_alike part whole places ss ts

abbrev pub meters_alike : Net → Net → List ℕ → List Crossing → List Crossing → Bool
meters_alike part whole places inner outer =
    all_selections_alike part whole places (meters part inner) (meters whole outer)
