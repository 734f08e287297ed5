-- The room in which leaves are judged stays ready from line to line.
use Rattle.std.proofs.Common.{◌≡◌, ℕ, ◌≤◌, ◌∙◌, List, [], ◌∷◌, ◌++◌, ap, arith, refl, subst, sym}
use Rattle.fx_boxes.specs.Boxes.{Bounds, IsStrictlyInside}
use Rattle.fx_leaf.specs.PathSelections.{AllOver, AllUnder, AreNarrowed, IsNarrowed, PathSelection}
use Rattle.fx_leaf.specs.PathTables.{PathTable}
use Rattle.fx_leaf.specs.Tables.{Tables}
use Rattle.fx_leaf.proofs.NarrowedRegions.{above_lies, below_lies, front_narrowed, last_narrowed, part_narrowed, split_narrowed}
use Rattle.fx_traffic.specs.Targets.{Target}
use Rattle.fx_check.specs.Remaining.{HasBegun, HasNarrowed, HasRooms, IsInTree, IsNarrowedTo, below_waits, above_waits}
use Rattle.fx_check.specs.declared.progress.Stage.{Stage}
use Rattle.fx_check.specs.declared.progress.Stage.TheVariants as stage
use Rattle.fx_check.specs.declared.stack.WaitingRegion.{WaitingRegion}

pub rooms_more : (t : Tables) (ts : List Target) (p q : PathTable) → p.room ≤ q.room → HasRooms t ts p → HasRooms t ts q
rooms_more t ts p q more rooms k target got = let fits = rooms k target got in omega (arith, fits, more)

pub narrowed_tree : (s : Stage) (ws : List WaitingRegion) (xs : List PathSelection) (w : WaitingRegion) → s
    ≡ stage.Tree w → HasNarrowed s ws xs → AreNarrowed (λ (v : WaitingRegion). v.region)
    (λ (v : WaitingRegion). v.active) xs (ws ++ w ∷ [])
narrowed_tree s ws xs w e h = subst (λ (x : Stage). HasNarrowed x ws xs) e h

pub narrowed_there : (s : Stage) (ws : List WaitingRegion) (xs : List PathSelection) (w : WaitingRegion) → s
    ≡ stage.Tree w → HasNarrowed s ws xs → IsNarrowed xs w.region w.active
narrowed_there s ws xs w e h = last_narrowed (λ (v : WaitingRegion). v.region) (λ (v : WaitingRegion). v.active) xs ws w
    (narrowed_tree s ws xs w e h)

-- where the path begins, nothing waits
pub narrowed_first : (ws : List WaitingRegion) (xs : List PathSelection) (w : WaitingRegion) → ws ≡ []
    → IsNarrowed xs w.region w.active → HasNarrowed (stage.Tree w) ws xs
narrowed_first ws xs w none h = subst (λ (vs : List WaitingRegion). AreNarrowed (λ (v : WaitingRegion). v.region)
    (λ (v : WaitingRegion). v.active) xs (vs ++ w ∷ [])) (sym none) (h, tt, tt)

-- the region on top comes next
pub narrowed_pop : (s : Stage) (ws rest : List WaitingRegion) (xs : List PathSelection) (top : WaitingRegion)
    → IsInTree s → ws ≡ rest ++ top ∷ [] → HasNarrowed s ws xs → HasNarrowed (stage.Tree top) rest xs
narrowed_pop stage.Header ws rest xs top i e h = absurd i
narrowed_pop stage.Between ws rest xs top i e h = absurd i
narrowed_pop (stage.Tree w) ws rest xs top i e h =
    subst (λ (vs : List WaitingRegion). AreNarrowed (λ (v : WaitingRegion). v.region) (λ (v : WaitingRegion). v.active)
    xs vs) e (front_narrowed (λ (v : WaitingRegion). v.region) (λ (v : WaitingRegion). v.active) xs ws w h)
narrowed_pop stage.Ended ws rest xs top i e h = absurd i

-- both parts of a region come next
pub narrowed_split : (s : Stage) (ws after_push : List WaitingRegion) (old new : PathTable)
    (w below above : WaitingRegion) (i at active : ℕ) → s ≡ stage.Tree w → IsStrictlyInside w.region i at → below
    ≡ below_waits w i at active → above ≡ above_waits w i at active → after_push ≡ ws ++ above ∷ []
    → IsNarrowedTo old new w active → HasNarrowed s ws old.selections
    → HasNarrowed (stage.Tree below) after_push new.selections
narrowed_split s ws after_push old new w below above i at active e inside lower upper pushed to h =
    let down = part_narrowed new.selections w.region (below_waits w i at active).region active
    (below_lies w.region i at inside) to.narrowed in
    let up = part_narrowed new.selections w.region (above_waits w i at active).region active
    (above_lies w.region i at inside) to.narrowed in
    let split = split_narrowed (λ (v : WaitingRegion). v.region) (λ (v : WaitingRegion). v.active) old.selections
    new.selections ws w (above_waits w i at active) (below_waits w i at active) to.fewer refl up down to.others
    (narrowed_tree s ws old.selections w e h) in
    rw (pushed, upper, lower) split

-- the path stays begun
pub begun_still : (t : Tables) (ts : List Target) (at : ℕ) (s : Stage) (w below : WaitingRegion) (old new : PathTable)
    (active : ℕ) → s ≡ stage.Tree w → IsNarrowedTo old new w active → HasBegun t ts at s old
    → HasBegun t ts at (stage.Tree below) new
begun_still t ts at s w below old new active e to begun =
    let there : HasBegun t ts at (stage.Tree w) old = subst (λ (x : Stage). HasBegun t ts at x old) e begun in
    λ target got. to.begun t target.crossings (there target got)

-- ---- a line is refused

-- the region that comes next is the same one
pub stage_kept : (s : Stage) (w below : WaitingRegion) → s ≡ stage.Tree w → below ≡ w → stage.Tree below ≡ s
stage_kept s w below e same = ap (λ (v : WaitingRegion). stage.Tree v) same ∙ sym e

last_under : (ws : List WaitingRegion) (w : WaitingRegion) (n : ℕ)
    → AllUnder (λ (v : WaitingRegion). v.active) n (ws ++ w ∷ []) → w.active ≤ n
last_under [] w n h = h.0
last_under (v ∷ vs) w n h = last_under vs w n h.1

last_least : (xs : List PathSelection) (ws : List WaitingRegion) (w : WaitingRegion)
    → AreNarrowed (λ (v : WaitingRegion). v.region) (λ (v : WaitingRegion). v.active) xs (ws ++ w ∷ [])
    → AllOver (λ (v : WaitingRegion). v.active) w.active (ws ++ w ∷ [])
last_least xs [] w h = (omega arith, tt)
last_least xs (v ∷ vs) w h = (last_under vs w v.active h.1, last_least xs vs w h.2)

all_still : (xs ys : List PathSelection) (n : ℕ) (ws : List WaitingRegion)
    → ((b : Bounds) (m : ℕ) → n ≤ m → IsNarrowed xs b m → IsNarrowed ys b m)
    → AllOver (λ (v : WaitingRegion). v.active) n ws
    → AreNarrowed (λ (v : WaitingRegion). v.region) (λ (v : WaitingRegion). v.active) xs ws
    → AreNarrowed (λ (v : WaitingRegion). v.region) (λ (v : WaitingRegion). v.active) ys ws
all_still xs ys n [] keeps over h = tt
all_still xs ys n (w ∷ ws) keeps over h =
    (keeps w.region w.active over.0 h.0, h.1, all_still xs ys n ws keeps over.1 h.2)

-- the regions stay narrowed where the selection processes that don't count packets of the last of them moved
pub narrowed_kept : (s : Stage) (ws : List WaitingRegion) (old new : PathTable) (w : WaitingRegion) (active : ℕ) → s
    ≡ stage.Tree w → IsNarrowedTo old new w active → HasNarrowed s ws old.selections → HasNarrowed s ws new.selections
narrowed_kept s ws old new w active e to h =
    let there = narrowed_tree s ws old.selections w e h in
    subst (λ (x : Stage). HasNarrowed x ws new.selections) (sym e)
    (all_still old.selections new.selections w.active (ws ++ w ∷ []) to.others
    (last_least old.selections ws w there) there)
