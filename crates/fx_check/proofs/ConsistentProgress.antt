-- How what is still to be said changes as the checker goes on.
use Rattle.std.proofs.Common.{◌≡◌, ℕ, zero, suc, ◌+◌, ◌<◌, ◌≤◌, List, [], ◌∷◌, ◌++◌, length, get_or, drop, refl, sym, ap, subst, ◌∙◌, arith, add-one, length-append, length-drop, cond, Result, Option, Err, Some, None, true, false, ◌≢◌}
use Rattle.std.proofs.lemmas.Bool.{le-leb, lt-leb}
use Rattle.std.proofs.lemmas.Option.{slice_get_read, get_or_from_slice_get}
use Rattle.std.proofs.Math.Seq.{drop-cons}
use Rattle.fx_elements.specs.Axes.{axis_index}
use Rattle.fx_elements.specs.declared.axis.Axis.{Axis}
use Rattle.fx_leaf.specs.declared.leaf.Counted.{Counted}
use Rattle.fx_leaf.specs.PathTables.{IsPathBegun, PathTable}
use Rattle.fx_leaf.specs.Tables.{Tables}
use Rattle.fx_check.specs.Judging.{Judge}
use Rattle.fx_cert.specs.declared.item.Item.{Item}
use Rattle.fx_cert.specs.declared.item.Item.TheVariants as item
use Rattle.fx_cert.specs.declared.item.Version.{Version}
use Rattle.fx_traffic.specs.Targets.{Target}
use Rattle.fx_check.specs.declared.stack.WaitingRegion.{WaitingRegion}
use Rattle.fx_check.specs.declared.progress.Stage.{Stage}
use Rattle.fx_check.specs.declared.progress.Stage.TheVariants as stage
use Rattle.fx_check.specs.FirstRefusal.{Goal, tree, ahead, may_say_never, after, leaf_answer, line_limit, unless_wrong, split_answer, form_fault, at_end, at_line, Refusal}
use Rattle.fx_base.specs.Lines.{next_number}
use Rattle.fx_check.specs.Remaining.{below_waits, above_waits, waiting_goals, tree_goals, goals_at, rest_of_tree, AreDeepFrom, AreDeep, IsConsistentAt, IsInTree, HasBegun}
use Rattle.fx_check.specs.LineFaults.{number_of}
use Rattle.fx_check.specs.declared.line_fault.LineFault.{LineFault}
use Rattle.fx_check.specs.declared.line_fault.LineFault.TheVariants as faults

-- where the text ends behind the line n, and something is still to be said
abbrev ended_early : ℕ → Refusal
ended_early n = record { fault = at_line (number_of faults.Cut) (next_number n); last = n; behind = [] }

-- no line of a tree
abbrev IsNoTree : Item → Type 0
IsNoTree (item.Header v) = Unit {0}
IsNoTree (item.Class c m) = Unit {0}
IsNoTree (item.Leaf crossing point process) = ⊥
IsNoTree (item.Split a v) = ⊥
IsNoTree item.Never = ⊥
IsNoTree item.End = Unit {0}

waiting_push : (z : Version) (t : Target) (ws : List WaitingRegion) (w : WaitingRegion) (gs : List Goal)
    → waiting_goals z t (ws ++ w ∷ []) gs ≡ tree z t w.region w.depth ∷ waiting_goals z t ws gs
waiting_push z t [] w gs = refl
waiting_push z t (x ∷ ws) w gs = waiting_push z t ws w (tree z t x.region x.depth ∷ gs)

-- the region on top comes next
pub top_next : (z : Version) (ts : List Target) (ws : List WaitingRegion) (w : WaitingRegion) → tree_goals z ts w ws
    ≡ rest_of_tree z ts (ws ++ w ∷ [])
top_next z [] ws w = refl
top_next z (t ∷ ts) ws w = sym (waiting_push z t ws w (ahead z ts))

-- with no region on top the next target comes
pub target_next : (z : Version) (ts : List Target) (at : ℕ) → at < length ts → ahead z (drop (at + 1) ts)
    ≡ rest_of_tree z (drop at ts) []
target_next z ts at lt = rw add-one (go ts at lt) where
  go : (ts : List Target) (at : ℕ) → at < length ts → ahead z (drop (suc at) ts) ≡ rest_of_tree z (drop at ts) []
  go [] at lt = absurd (omega arith)
  go (t ∷ ts) zero lt = refl
  go (t ∷ ts) (suc at) lt = go ts at (omega arith)

pub leaf_is : (z : Version) (judge : Judge) (made : ℕ) (ts : List Target) (at : ℕ) (ws : List WaitingRegion) (s : Stage)
    (w : WaitingRegion) (l : Counted) (t : Target) → s ≡ stage.Tree w → IsConsistentAt ts at ws s → t ≡ get_or ts at t
    → after judge made (goals_at z ts at ws s) (item.Leaf l.crossing l.point l.process)
    ≡ cond t.exempt (Err faults.Place) (leaf_answer made (judge t w.region (Some l))
    (rest_of_tree z (drop at ts) ws))
leaf_is z judge made ts at ws s w l t e h is =
    let k : IsConsistentAt ts at ws (stage.Tree w) = subst (λ (x : Stage). IsConsistentAt ts at ws x) e h in
    rw (e, drop-cons ts at t k.0, ← is) refl

pub never_is : (z : Version) (judge : Judge) (made : ℕ) (ts : List Target) (at : ℕ) (ws : List WaitingRegion)
    (s : Stage) (w : WaitingRegion) (t : Target) → s ≡ stage.Tree w → IsConsistentAt ts at ws s → t ≡ get_or ts at t
    → after judge made (goals_at z ts at ws s) item.Never
    ≡ cond (may_say_never z t) (leaf_answer made (judge t w.region None) (rest_of_tree z (drop at ts) ws))
    (Err faults.Place)
never_is z judge made ts at ws s w t e h is =
    let k : IsConsistentAt ts at ws (stage.Tree w) = subst (λ (x : Stage). IsConsistentAt ts at ws x) e h in
    rw (e, drop-cons ts at t k.0, ← is) refl

too_many : (made : ℕ) (wrong : Option ℕ) (gs : List Goal) → line_limit ≤ made → leaf_answer made wrong gs
    ≡ Err faults.LineCount
too_many made wrong gs many = rw (le-leb line_limit made many) refl

few_lines : (made : ℕ) (wrong : Option ℕ) (gs : List Goal) → made < line_limit → leaf_answer made wrong gs
    ≡ unless_wrong wrong gs
few_lines made wrong gs few = rw (lt-leb line_limit made few) refl

-- an item that may not stand there, that is one line too many, that is wrong, and that is right
pub never_out_of_place : (z : Version) (judge : Judge) (made : ℕ) (ts : List Target) (at : ℕ) (ws : List WaitingRegion)
    (s : Stage) (w : WaitingRegion) (t : Target) → s ≡ stage.Tree w → IsConsistentAt ts at ws s → t ≡ get_or ts at t
    → may_say_never z t ≡ false
    → after judge made (goals_at z ts at ws s) item.Never ≡ Err faults.Place
never_out_of_place z judge made ts at ws s w t e h is may = rw (never_is z judge made ts at ws s w t e h is, may) refl

pub never_too_many : (z : Version) (judge : Judge) (made : ℕ) (ts : List Target) (at : ℕ) (ws : List WaitingRegion)
    (s : Stage) (w : WaitingRegion) (t : Target) → s ≡ stage.Tree w → IsConsistentAt ts at ws s → t ≡ get_or ts at t
    → may_say_never z t ≡ true → line_limit ≤ made
    → after judge made (goals_at z ts at ws s) item.Never ≡ Err faults.LineCount
never_too_many z judge made ts at ws s w t e h is may many =
    rw (never_is z judge made ts at ws s w t e h is, may)
    (too_many made (judge t w.region None) (rest_of_tree z (drop at ts) ws) many)

pub never_judged : (z : Version) (judge : Judge) (made : ℕ) (ts : List Target) (at : ℕ) (ws : List WaitingRegion)
    (s : Stage) (w : WaitingRegion) (t : Target) (wrong : Option ℕ) → s ≡ stage.Tree w → IsConsistentAt ts at ws s → t
    ≡ get_or ts at t → may_say_never z t ≡ true → made < line_limit → judge t w.region None ≡ wrong
    → after judge made (goals_at z ts at ws s) item.Never ≡ unless_wrong wrong (rest_of_tree z (drop at ts) ws)
never_judged z judge made ts at ws s w t wrong e h is may few said =
    rw (never_is z judge made ts at ws s w t e h is, may)
    (few_lines made (judge t w.region None) (rest_of_tree z (drop at ts) ws) few
    ∙ ap (λ v. unless_wrong v (rest_of_tree z (drop at ts) ws)) said)

pub leaf_out_of_place : (z : Version) (judge : Judge) (made : ℕ) (ts : List Target) (at : ℕ) (ws : List WaitingRegion)
    (s : Stage) (w : WaitingRegion) (l : Counted) (t : Target) → s ≡ stage.Tree w → IsConsistentAt ts at ws s → t
    ≡ get_or ts at t → t.exempt ≡ true
    → after judge made (goals_at z ts at ws s) (item.Leaf l.crossing l.point l.process) ≡ Err faults.Place
leaf_out_of_place z judge made ts at ws s w l t e h is exempt =
    leaf_is z judge made ts at ws s w l t e h is
    ∙ ap (λ b. cond b (Err faults.Place) (leaf_answer made (judge t w.region (Some l))
    (rest_of_tree z (drop at ts) ws))) exempt

pub leaf_too_many : (z : Version) (judge : Judge) (made : ℕ) (ts : List Target) (at : ℕ) (ws : List WaitingRegion)
    (s : Stage) (w : WaitingRegion) (l : Counted) (t : Target) → s ≡ stage.Tree w → IsConsistentAt ts at ws s → t
    ≡ get_or ts at t → t.exempt ≡ false → line_limit ≤ made
    → after judge made (goals_at z ts at ws s) (item.Leaf l.crossing l.point l.process) ≡ Err faults.LineCount
leaf_too_many z judge made ts at ws s w l t e h is due many =
    leaf_is z judge made ts at ws s w l t e h is
    ∙ (ap (λ b. cond b (Err faults.Place) (leaf_answer made (judge t w.region (Some l))
    (rest_of_tree z (drop at ts) ws))) due ∙ too_many made (judge t w.region (Some l))
    (rest_of_tree z (drop at ts) ws) many)

pub leaf_judged : (z : Version) (judge : Judge) (made : ℕ) (ts : List Target) (at : ℕ) (ws : List WaitingRegion)
    (s : Stage) (w : WaitingRegion) (l : Counted) (t : Target) (wrong : Option ℕ) → s ≡ stage.Tree w
    → IsConsistentAt ts at ws s → t ≡ get_or ts at t → t.exempt ≡ false → made < line_limit → judge t w.region (Some l)
    ≡ wrong
    → after judge made (goals_at z ts at ws s) (item.Leaf l.crossing l.point l.process)
    ≡ unless_wrong wrong (rest_of_tree z (drop at ts) ws)
leaf_judged z judge made ts at ws s w l t wrong e h is due few said =
    leaf_is z judge made ts at ws s w l t e h is
    ∙ (ap (λ b. cond b (Err faults.Place) (leaf_answer made (judge t w.region (Some l))
    (rest_of_tree z (drop at ts) ws))) due ∙ (few_lines made (judge t w.region (Some l))
    (rest_of_tree z (drop at ts) ws) few ∙ ap (λ v. unless_wrong v (rest_of_tree z (drop at ts) ws)) said))

-- in the tree of a target its path is begun
pub begun_there : (tables : Tables) (ts : List Target) (at : ℕ) (s : Stage) (w : WaitingRegion) (t : Target)
    (room : PathTable) → HasBegun tables ts at s room → s ≡ stage.Tree w → at < length ts → t ≡ get_or ts at t
    → IsPathBegun tables t.crossings room
begun_there tables ts at s w t room begun e lt is =
    let there : HasBegun tables ts at (stage.Tree w) room = subst (λ (x : Stage). HasBegun tables ts at x room) e begun
    in
    there t (slice_get_read ts (length ts) at t refl lt is)

pub begins_there : (tables : Tables) (ts : List Target) (at : ℕ) (s : Stage) (w : WaitingRegion) (t : Target)
    (room : PathTable) → s ≡ stage.Tree w → t ≡ get_or ts at t → IsPathBegun tables t.crossings room
    → HasBegun tables ts at s room
begins_there tables ts at s w t room e is begun =
    let there : HasBegun tables ts at (stage.Tree w) room =
    λ target got. subst (λ (x : Target). IsPathBegun tables x.crossings room)
    (is ∙ get_or_from_slice_get ts at target t got) begun in
    subst (λ (x : Stage). HasBegun tables ts at x room) (sym e) there

split_on : (z : Version) (judge : Judge) (made : ℕ) (ts : List Target) (ws : List WaitingRegion) (w : WaitingRegion)
    (a : Axis) (v m : ℕ) → 0 < length ts
    → after judge made (tree_goals z ts w ws) (item.Split a v)
    ≡ split_answer made w.region w.depth (axis_index a) v
    (tree_goals z ts (below_waits w (axis_index a) v m) (ws ++ above_waits w (axis_index a) v m ∷ []))
split_on z judge made [] ws w a v m some = absurd (omega arith)
split_on z judge made (t ∷ ts) ws w a v m some =
    rw (waiting_push z t ws (above_waits w (axis_index a) v m) (ahead z ts)) refl

deep_more : (k : ℕ) (ws : List WaitingRegion) (w : WaitingRegion) → AreDeepFrom k ws → k + length ws < w.depth → w.depth
    ≤ 512 → AreDeepFrom k (ws ++ w ∷ [])
deep_more k [] w h lt le = (omega arith, le, tt)
deep_more k (x ∷ ws) w h lt le = (h.0, h.1, deep_more (k + 1) ws w h.2 (omega arith) le)

deep_less : (k : ℕ) (ws : List WaitingRegion) (w : WaitingRegion) → AreDeepFrom k (ws ++ w ∷ []) → AreDeepFrom k ws
    × (k + length ws < w.depth) × (w.depth ≤ 512)
deep_less k [] w h = (tt, omega (arith, h.0), h.1)
deep_less k (x ∷ ws) w h = let r = deep_less (k + 1) ws w h.2 in ((h.0, h.1, r.0), omega (arith, r.1), r.2)

pub deep_push : (ws : List WaitingRegion) (d : ℕ) (w : WaitingRegion) → AreDeep ws d → d < 512 → w.depth ≡ d + 1
    → AreDeep (ws ++ w ∷ []) (d + 1)
deep_push ws d w h lt e = (
  omega arith,
  omega (arith, length-append ws (w ∷ []), h.1),
  deep_more 0 ws w h.2
      (omega (arith, h.1)) (omega arith),
)

pub deep_pop : (ws : List WaitingRegion) (w : WaitingRegion) (d : ℕ) → AreDeep (ws ++ w ∷ []) d → AreDeep ws w.depth
deep_pop ws w d h = let r = deep_less 0 ws w h.2 in (r.2, omega (arith, r.1), r.0)

pub stands : (ts : List Target) (at : ℕ) (ws : List WaitingRegion) (s : Stage) → IsConsistentAt ts at ws s → IsInTree s
    → (at < length ts) × ((d : ℕ) × AreDeep ws d)
stands ts at ws stage.Header h i = absurd i
stands ts at ws stage.Between h i = absurd i
stands ts at ws (stage.Tree w) h i = (h.0, (w.depth, h.1))
stands ts at ws stage.Ended h i = absurd i

pub is_in_tree : (s : Stage) (w : WaitingRegion) → s ≡ stage.Tree w → IsInTree s
is_in_tree s w e = subst IsInTree (sym e) tt

-- consistent after a region was taken from the top
pub stands_pop : (ts : List Target) (at : ℕ) (ws rest : List WaitingRegion) (w : WaitingRegion) (s : Stage)
    → IsConsistentAt ts at ws s → IsInTree s → ws ≡ rest ++ w ∷ [] → (at < length ts) × AreDeep rest w.depth
stands_pop ts at ws rest w s h i e =
    let k = stands ts at ws s h i in
    let f : AreDeep (rest ++ w ∷ []) k.1.0 = subst (λ (x : List WaitingRegion). AreDeep x k.1.0) e k.1.1 in
    (k.0, deep_pop rest w k.1.0 f)

pub split_goal : (z : Version) (judge : Judge) (made : ℕ) (ts : List Target) (at : ℕ) (ws : List WaitingRegion)
    (s : Stage) (w : WaitingRegion) (a : Axis) (v m : ℕ) → IsConsistentAt ts at ws s → s ≡ stage.Tree w
    → after judge made (goals_at z ts at ws s) (item.Split a v)
    ≡ split_answer made w.region w.depth (axis_index a) v
    (tree_goals z (drop at ts) (below_waits w (axis_index a) v m) (ws ++ above_waits w (axis_index a) v m ∷ []))
split_goal z judge made ts at ws s w a v m h e =
    let k : IsConsistentAt ts at ws (stage.Tree w) = subst (λ (x : Stage). IsConsistentAt ts at ws x) e h in
    rw e (split_on z judge made (drop at ts) ws w a v m (omega (arith, length-drop at ts, k.0)))

pub split_end : (z : Version) (judge : Judge) (made : ℕ) (ts : List Target) (at : ℕ)
    (ws after_push : List WaitingRegion) (s : Stage) (w below above : WaitingRegion) (a : Axis) (v m : ℕ)
    (r : Result (List Goal) LineFault) → IsConsistentAt ts at ws s → s ≡ stage.Tree w
    → below ≡ below_waits w (axis_index a) v m → above ≡ above_waits w (axis_index a) v m → after_push ≡ ws ++ above
    ∷ []
    → split_answer made w.region w.depth (axis_index a) v (tree_goals z (drop at ts) below after_push) ≡ r
    → after judge made (goals_at z ts at ws s) (item.Split a v) ≡ r
split_end z judge made ts at ws after_push s w below above a v m r h e lower upper pushed is =
    split_goal z judge made ts at ws s w a v m h e ∙ (rw (← upper, ← lower, ← pushed) is)

pub stands_push : (ts : List Target) (at : ℕ) (ws after_push : List WaitingRegion) (s : Stage)
    (w below above : WaitingRegion) (k v m : ℕ) → IsConsistentAt ts at ws s → s ≡ stage.Tree w → w.depth < 512
    → below ≡ below_waits w k v m → above ≡ above_waits w k v m → after_push ≡ ws ++ above ∷ [] → (at < length ts)
    × AreDeep after_push below.depth
stands_push ts at ws after_push s w below above k v m h e lt lower upper pushed =
    let in_tree : IsConsistentAt ts at ws (stage.Tree w) = subst (λ (x : Stage). IsConsistentAt ts at ws x) e h in
    rw (pushed, upper, lower) (in_tree.0, deep_push ws w.depth (above_waits w k v m) in_tree.1 lt refl)

-- in a tree there is a region
pub region_of : (s : Stage) → IsInTree s → (w : WaitingRegion) × (s ≡ stage.Tree w)
region_of stage.Header h = absurd h
region_of stage.Between h = absurd h
region_of (stage.Tree w) h = (w, refl)
region_of stage.Ended h = absurd h

pub refuses_tree : (z : Version) (judge : Judge) (made : ℕ) (ts : List Target) (at : ℕ) (ws : List WaitingRegion)
    (s : Stage) (w : WaitingRegion) (i : Item) → IsConsistentAt ts at ws s → s ≡ stage.Tree w → IsNoTree i
    → after judge made (goals_at z ts at ws s) i ≡ Err faults.Place
refuses_tree z judge made ts at ws s w i h e other =
    let k : IsConsistentAt ts at ws (stage.Tree w) = subst (λ (x : Stage). IsConsistentAt ts at ws x) e h in
    rw e (go (drop at ts) i (omega (arith, length-drop at ts, k.0)) other) where
      go : (ts : List Target) (i : Item) → 0 < length ts → IsNoTree i → after judge made (tree_goals z ts w ws) i
          ≡ Err faults.Place
      go [] i some other = absurd (omega arith)
      go (t ∷ ts) (item.Header v) some other = refl
      go (t ∷ ts) (item.Class c m) some other = refl
      go (t ∷ ts) (item.Leaf crossing point process) some other = absurd other
      go (t ∷ ts) (item.Split a v) some other = absurd other
      go (t ∷ ts) item.Never some other = absurd other
      go (t ∷ ts) item.End some other = refl

pub form_fault-ahead : (z : Version) (xs : List Target) → form_fault (ahead z xs) ≡ faults.Form
form_fault-ahead z [] = refl
form_fault-ahead z (t ∷ ts) = refl

pub form_fault-tree_goals : (z : Version) (xs : List Target) (w : WaitingRegion) (ws : List WaitingRegion) → 0
    < length xs → form_fault (tree_goals z xs w ws) ≡ faults.Form
form_fault-tree_goals z [] w ws some = absurd (omega arith)
form_fault-tree_goals z (t ∷ ts) w ws some = refl

pub not_ended : (z : Version) (ts : List Target) (at : ℕ) (ws : List WaitingRegion) (s : Stage) (n : ℕ)
    → IsConsistentAt ts at ws s → s ≢ stage.Ended → at_end n (goals_at z ts at ws s) ≡ Some (ended_early n)
not_ended z ts at ws stage.Header n h ne = refl
not_ended z ts at ws stage.Between n h ne = go (drop at ts) where
  go : (xs : List Target) → at_end n (ahead z xs) ≡ Some (ended_early n)
  go [] = refl
  go (t ∷ ts) = refl
not_ended z ts at ws (stage.Tree w) n h ne = go (drop at ts) (omega (arith, length-drop at ts, h.0)) where
  go : (xs : List Target) → 0 < length xs → at_end n (tree_goals z xs w ws) ≡ Some (ended_early n)
  go [] some = absurd (omega arith)
  go (t ∷ ts) some = refl
not_ended z ts at ws stage.Ended n h ne = absurd (ne refl)

pub form_fault_between : (z : Version) (ts : List Target) (at : ℕ) (ws : List WaitingRegion) (s : Stage) → s
    ≡ stage.Between → faults.Form ≡ form_fault (goals_at z ts at ws s)
form_fault_between z ts at ws s e = rw e (sym (form_fault-ahead z (drop at ts)))

pub form_fault_tree : (z : Version) (ts : List Target) (at : ℕ) (ws : List WaitingRegion) (s : Stage)
    (w : WaitingRegion) → IsConsistentAt ts at ws s → s ≡ stage.Tree w → faults.Form
    ≡ form_fault (goals_at z ts at ws s)
form_fault_tree z ts at ws s w h e =
    let k : IsConsistentAt ts at ws (stage.Tree w) = subst (λ (x : Stage). IsConsistentAt ts at ws x) e h in
    rw e (sym (form_fault-tree_goals z (drop at ts) w ws (omega (arith, length-drop at ts, k.0))))

pub no_tree : (i : Item) → ((crossing point process : ℕ) → i ≢ item.Leaf crossing point process)
    → ((a : Axis) (v : ℕ) → i ≢ item.Split a v) → i ≢ item.Never → IsNoTree i
no_tree (item.Header v) f g h = tt
no_tree (item.Class c m) f g h = tt
no_tree (item.Leaf crossing point process) f g h = f crossing point process refl
no_tree (item.Split a v) f g h = g a v refl
no_tree item.Never f g h = h refl
no_tree item.End f g h = tt
