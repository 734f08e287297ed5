-- What a certificate must still contain in a given state of a checker.
use Rattle.std.specs.Prelude.{◌≡◌, ℕ, ◌+◌, ◌<◌, ◌≤◌, List, [], ◌∷◌, ◌++◌, length, drop, slice_get, Some, Result, Ok, Err}
use Rattle.fx_boxes.specs.Boxes.{Bounds, below_part, above_part}
use Rattle.fx_tables.specs.declared.traffic.Crossing.{Crossing}
use Rattle.fx_cert.specs.declared.item.Version.{Version}
use Rattle.fx_leaf.specs.PathSelections.{AreNarrowed, IsNarrowed, PathSelection}
use Rattle.fx_leaf.specs.PathTables.{HasPathRoom, HasProcessRoom, IsPathBegun, PathTable}
use Rattle.fx_leaf.specs.Tables.{Tables}
use Rattle.fx_traffic.specs.Targets.{Target}
use Rattle.fx_check.specs.declared.stack.WaitingRegion.{WaitingRegion}
use Rattle.fx_check.specs.declared.progress.Progress.{Progress}
use Rattle.fx_check.specs.declared.progress.Stage.{Stage}
use Rattle.fx_check.specs.declared.progress.Stage.TheVariants as stage
use Rattle.fx_check.specs.FirstRefusal.{Goal, header, tree, ahead, depth_limit}
use Rattle.fx_check.specs.declared.line_fault.LineFault.{LineFault}

-- the two parts of a waiting region, one level deeper
abbrev pub below_waits : WaitingRegion → ℕ → ℕ → ℕ → WaitingRegion
below_waits w k v m = record { region = below_part w.region k v; depth = w.depth + 1; active = m }

abbrev pub above_waits : WaitingRegion → ℕ → ℕ → ℕ → WaitingRegion
above_waits w k v m = record { region = above_part w.region k v; depth = w.depth + 1; active = m }

-- the waiting regions, the last of them first, and then gs
abbrev pub waiting_goals : Version → Target → List WaitingRegion → List Goal → List Goal
waiting_goals v t [] gs = gs
waiting_goals v t (w ∷ ws) gs = waiting_goals v t ws (tree v t w.region w.depth ∷ gs)

-- within the tree of the first target
abbrev pub tree_goals : Version → List Target → WaitingRegion → List WaitingRegion → List Goal
tree_goals v [] w ws = []
tree_goals v (t ∷ ts) w ws = tree v t w.region w.depth ∷ waiting_goals v t ws (ahead v ts)

abbrev pub goals_at : Version → List Target → ℕ → List WaitingRegion → Stage → List Goal
goals_at v ts at ws stage.Header = header (drop at ts) ∷ []
goals_at v ts at ws stage.Between = ahead v (drop at ts)
goals_at v ts at ws (stage.Tree w) = tree_goals v (drop at ts) w ws
goals_at v ts at ws stage.Ended = []

abbrev pub goals : List Target → Progress → List Goal
goals ts c = goals_at c.version ts c.current c.waiting c.stage

-- the depth of each waiting region is greater than its index, counted from k
abbrev pub AreDeepFrom : ℕ → List WaitingRegion → Type 0
AreDeepFrom k [] = Unit {0}
AreDeepFrom k (w ∷ ws) = (k < w.depth) × (w.depth ≤ depth_limit) × AreDeepFrom (k + 1) ws

abbrev pub AreDeep : List WaitingRegion → ℕ → Type 0
AreDeep ws depth = (depth ≤ depth_limit) × (length ws ≤ depth) × AreDeepFrom 0 ws

abbrev pub IsConsistentAt : List Target → ℕ → List WaitingRegion → Stage → Type 0
IsConsistentAt ts at ws stage.Header = ws ≡ []
IsConsistentAt ts at ws stage.Between = ws ≡ []
IsConsistentAt ts at ws (stage.Tree w) = (at < length ts) × AreDeep ws w.depth
IsConsistentAt ts at ws stage.Ended = ws ≡ []

abbrev pub IsConsistent : List Target → Progress → Type 0
IsConsistent ts c = IsConsistentAt ts c.current c.waiting c.stage

-- the checker is in the tree of a region
abbrev pub IsInTree : Stage → Type 0
IsInTree stage.Header = ⊥
IsInTree stage.Between = ⊥
IsInTree (stage.Tree w) = Unit {0}
IsInTree stage.Ended = ⊥

-- if the checker is in the tree of a target, that target's path is begun
abbrev pub HasBegun : Tables → List Target → ℕ → Stage → PathTable → Type 0
HasBegun t ts at (stage.Tree w) p = (target : Target) → slice_get ts at ≡ Some target → IsPathBegun t target.crossings p
HasBegun t ts at stage.Header p = Unit {0}
HasBegun t ts at stage.Between p = Unit {0}
HasBegun t ts at stage.Ended p = Unit {0}

-- there is room for the selection processes of each target's path
abbrev pub HasRooms : Tables → List Target → PathTable → Type 0
HasRooms t ts p = (k : ℕ) (target : Target) → slice_get ts k ≡ Some target → HasPathRoom t target.crossings p

-- if the checker is in a tree, the current region and the waiting ones are narrowed
abbrev pub HasNarrowed : Stage → List WaitingRegion → List PathSelection → Type 0
HasNarrowed (stage.Tree w) ws selections = AreNarrowed (λ v. v.region) (λ v. v.active) selections (ws ++ w ∷ [])
HasNarrowed stage.Header ws selections = Unit {0}
HasNarrowed stage.Between ws selections = Unit {0}
HasNarrowed stage.Ended ws selections = Unit {0}

-- `active` of the path's selection processes still matter for a region, and these now come first
pub record IsNarrowedTo (old new : PathTable) (w : WaitingRegion) (active : ℕ) : Type 0 where
  pub narrowed : IsNarrowed new.selections w.region active
  pub fewer : active ≤ w.active
  pub others : (b : Bounds) (m : ℕ) → w.active ≤ m → IsNarrowed old.selections b m → IsNarrowed new.selections b m
  pub begun : (t : Tables) (path : List Crossing) → IsPathBegun t path old → IsPathBegun t path new
  pub room : (t : Tables) → HasProcessRoom t old → HasProcessRoom t new
  pub more : old.room ≤ new.room

-- there is room for judging leaves
pub record IsReady (t : Tables) (ts : List Target) (c : Progress) (p : PathTable) : Type 0 where
  pub room : HasProcessRoom t p
  pub rooms : HasRooms t ts p
  pub begun : HasBegun t ts c.current c.stage p
  pub narrowed : HasNarrowed c.stage c.waiting p.selections

abbrev pub rest_of_tree : Version → List Target → List WaitingRegion → List Goal
rest_of_tree v [] ws = []
rest_of_tree v (t ∷ ts) ws = waiting_goals v t ws (ahead v ts)

-- what must follow after the region's tree
abbrev pub rest_goals : List Target → Progress → List Goal
rest_goals ts c = rest_of_tree c.version (drop c.current ts) c.waiting

-- the result of a call, with what must still follow
abbrev pub map_result : {A : Type 0} → Result A LineFault → List Goal → Result (List Goal) LineFault
map_result (Ok x) gs = Ok gs
map_result (Err fault) gs = Err fault
