-- The selection processes along a path, and which of them still matter for a region.
use Rattle.std.specs.Prelude.{◌≡◌, ◌⊎◌, ◌≤◌, ◌<◌, ◌+◌, ℕ, List, [], ◌∷◌, ◌++◌, length, Some, None, slice_index_or, if◌then◌else◌}
use Rattle.fx_boxes.specs.Boxes.{Bounds, IsDisjoint}
use Rattle.fx_tables.specs.declared.observation.Selection.{Selection}
use Rattle.fx_tables.specs.declared.traffic.Crossing.{Crossing}
use Rattle.fx_tables.specs.Network.{Net, Point, points_of}
use Rattle.fx_base.specs.Entries.{entry_numbered}
use Rattle.fx_tables.specs.Occurrences.{watches}

-- a selection process of a point that watches a crossing of the path, with the 1-based numbers of crossing, point and
-- process
pub record PathSelection : Type 0 where
  pub crossing : ℕ
  pub point : ℕ
  pub process : ℕ
  pub selection : Selection

-- ---- all selection processes of a path, in order

abbrev pub point_selections : ℕ → ℕ → ℕ → List Selection → List PathSelection
point_selections crossing point process [] = []
point_selections crossing point process (s ∷ ss) =
    record { crossing = crossing; point = point; process = process; selection = s }
    ∷ point_selections crossing point (process + 1) ss

abbrev pub watching_selections : ℕ → ℕ → Crossing → Point → List PathSelection
watching_selections number n crossing point =
    if watches point crossing then point_selections number n 1 point.selections else []

abbrev pub crossing_selections : ℕ → ℕ → List Point → Crossing → List PathSelection
crossing_selections number n [] crossing = []
crossing_selections number n (point ∷ points) crossing =
    watching_selections number n crossing point ++ crossing_selections number (n + 1) points crossing

abbrev pub path_selections : Net → ℕ → List Crossing → List PathSelection
path_selections net n [] = []
path_selections net n (c ∷ cs) = crossing_selections n 1 (points_of (entry_numbered net.devices c.device)) c
    ++ path_selections net (n + 1) cs

-- ---- selection processes that matter for a region

-- the selection process has no cache, or selects none of the region's packets
abbrev pub IsApart : Bounds → Selection → Type 0
IsApart region s = (s.holder ≡ None) ⊎ ((other : Bounds) → s.region ≡ Some other → IsDisjoint region other)

-- all these selection processes from this index on are apart from the region
abbrev pub IsNarrowed : List PathSelection → Bounds → ℕ → Type 0
IsNarrowed selections region active =
    (k : ℕ) (d : PathSelection) → active ≤ k → k < length selections
    → IsApart region (slice_index_or selections k d).selection

-- each item has this number or more
abbrev pub AllOver : {A : Type 0} → (A → ℕ) → ℕ → List A → Type 0
AllOver active n [] = Unit {0}
AllOver active n (w ∷ ws) = (n ≤ active w) × AllOver active n ws

-- each item has this number or less
abbrev pub AllUnder : {A : Type 0} → (A → ℕ) → ℕ → List A → Type 0
AllUnder active n [] = Unit {0}
AllUnder active n (w ∷ ws) = (active w ≤ n) × AllUnder active n ws

-- regions, each with a number no greater than those before it: all selection processes from that number on are apart
-- from the region
abbrev pub AreNarrowed : {A : Type 0} → (A → Bounds) → (A → ℕ) → List PathSelection → List A → Type 0
AreNarrowed region active selections [] = Unit {0}
AreNarrowed region active selections (w ∷ ws) =
    IsNarrowed selections (region w) (active w) × AllUnder active (active w) ws
    × AreNarrowed region active selections ws

-- selection processes in some order, and the capacity of the list
pub record SelectionRoom : Type 0 where
  pub items : List PathSelection
  pub room : ℕ
