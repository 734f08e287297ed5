-- What is kept from leaf to leaf along a path: the marks, and verdicts that hold for every region.
use Rattle.std.specs.Prelude.{◌≡◌, ◌⊎◌, ◌≤◌, ℕ, Bool, true, List, [], length, slice_get, slice_index, Some}
use Rattle.fx_boxes.specs.Boxes.{Bounds}
use Rattle.fx_tables.specs.declared.process.Process.{Process}
use Rattle.fx_tables.specs.declared.traffic.Crossing.{Crossing}
use Rattle.fx_tables.specs.Network.{AggregationEntry}
use Rattle.std.specs.List.Sorted.{IsPermutation}
use Rattle.fx_leaf.specs.PathSelections.{PathSelection, path_selections}
use Rattle.fx_leaf.specs.Remaining.{AreAggregations}
use Rattle.fx_leaf.specs.Tables.{Table, Tables}
use Rattle.fx_leaf.specs.Reach.{HoldsAlongPath, IsClosed, IsFilled, IsMarked}

-- verdicts by collecting process, marks of the verdicts that are needed, whether these verdicts hold for every region,
-- and the selection processes of the path, with the capacity of their list; and the aggregations by collecting process
pub record PathTable : Type 0 where
  pub table : Table
  pub marks : List ℕ
  pub steady : Bool
  pub selections : List PathSelection
  pub room : ℕ
  pub matches : List (List AggregationEntry)

-- the table and the marks have exactly one entry for each collecting process of the network, and the matches are theirs
pub record HasProcessRoom (t : Tables) (p : PathTable) : Type 0 where
  pub table : length p.table ≡ length t.net.processes
  pub marks : length p.marks ≡ length t.net.processes
  pub matches : AreAggregations t.net.processes p.matches

-- the capacity suffices for the selection processes of the path
abbrev pub HasPathRoom : Tables → List Crossing → PathTable → Type 0
HasPathRoom t path p = length (path_selections t.net 1 path) ≤ p.room

-- no record reaches the collecting process, or it has no aggregation whose match could accept a record
abbrev pub HasNoMarkOrAggregation : ℕ → Process → Type 0
HasNoMarkOrAggregation mark p = (mark ≡ 0) ⊎ (p.aggregations ≡ [])

-- the same for each of these collecting processes
abbrev pub TakeNoneIn : List Process → List ℕ → Type 0
TakeNoneIn processes marks =
    (process : ℕ) (p : Process) → slice_get processes process ≡ Some p
    → HasNoMarkOrAggregation (slice_index marks process) p

-- the path's marks are set, and the marked verdicts are filled in if they hold for every region
pub record IsPathMarked (t : Tables) (path : List Crossing) (p : PathTable) : Type 0 where
  pub along : HoldsAlongPath t.net t.numbering (IsMarked p.marks) path
  pub closed : IsClosed t.net t.numbering p.marks
  pub filled : p.steady ≡ true → (region : Bounds) → IsFilled t.net t.numbering region p.marks p.table

-- the path is marked, and the path's selection processes are listed in some order
pub record IsPathBegun (t : Tables) (path : List Crossing) (p : PathTable) : Type 0 where
  pub marked : IsPathMarked t path p
  pub selections : IsPermutation (path_selections t.net 1 path) p.selections
