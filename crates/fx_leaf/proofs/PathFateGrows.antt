-- What is known along a path grows by the verdict on one selection process after another.
use Rattle.std.proofs.Common.{◌≡◌, ℕ, zero, suc, ◌+◌, ◌<◌, cond, List, [], ◌∷◌, ◌++◌, map, length, take, get_or, Option, Some, refl, sym, ap, ap₂, ◌∙◌, subst, arith, add-one, le_of_suc-le-suc, append-nil, append_assoc}
use Rattle.fx_boxes.specs.Boxes.{Bounds}
use Rattle.fx_tables.specs.declared.observation.Selection.{Selection}
use Rattle.fx_tables.specs.declared.traffic.Crossing.{Crossing}
use Rattle.fx_tables.specs.Network.{Net, Point, points_of}
use Rattle.fx_base.specs.Entries.{entry_numbered}
use Rattle.fx_tables.specs.Occurrences.{watches}
use Rattle.fx_leaf.specs.declared.path.PathFate.{PathFate}
use Rattle.fx_leaf.specs.Leaves.{AddsVerdicts, numbers_of}
use Rattle.fx_leaf.specs.Verdicts.{Verdict, VerdictAt, verdict_of_both, verdict_of_all, SelectionVerdict, selection_verdicts, point_verdicts, crossing_verdicts, path_verdicts, last_counter}
use Rattle.fx_leaf.proofs.JoinedVerdicts.{joined_assoc, joined_never, never_joined}

-- ---- one verdict more

abbrev pub joint_verdict : List SelectionVerdict → Verdict
joint_verdict ss = verdict_of_all (map (λ s. s.verdict) ss)

pub joint_verdict_append : (xs ys : List SelectionVerdict) → joint_verdict (xs ++ ys)
    ≡ verdict_of_both (joint_verdict xs) (joint_verdict ys)
joint_verdict_append [] ys = sym (never_joined (joint_verdict ys))
joint_verdict_append (x ∷ xs) ys = ap (verdict_of_both x.verdict) (joint_verdict_append xs ys)
    ∙ sym (joined_assoc x.verdict (joint_verdict xs) (joint_verdict ys))

last_counter_append : (found : Option SelectionVerdict) (xs ys : List SelectionVerdict)
    → last_counter (last_counter found xs) ys ≡ last_counter found (xs ++ ys)
last_counter_append found [] ys = refl
last_counter_append found (x ∷ xs) ys = last_counter_append _ xs ys

pub adds_nothing : (known : PathFate) → AddsVerdicts known known []
adds_nothing known = record {
  verdict = sym (joined_never (Some known.fate));
  counted = λ found. λ is. is;
}

pub adds_append : (a b c : PathFate) (xs ys : List SelectionVerdict) → AddsVerdicts a b xs → AddsVerdicts b c ys
    → AddsVerdicts a c (xs ++ ys)
adds_append a b c xs ys s t = record {
  verdict = t.verdict ∙ ap (λ v. verdict_of_both v (joint_verdict ys)) s.verdict
      ∙ joined_assoc (Some a.fate) (joint_verdict xs) (joint_verdict ys)
      ∙ ap (verdict_of_both (Some a.fate)) (sym (joint_verdict_append xs ys));
  counted = λ found. λ is. t.counted (last_counter found xs) (s.counted found is)
      ∙ ap numbers_of (last_counter_append found xs ys);
}

-- ---- lists, one more at a time

module _ (at : VerdictAt) (net : Net) (region : Bounds) where
  by_more : (crossing point q k : ℕ) (ss : List Selection) (d : Selection) → k < length ss
      → point_verdicts at net region crossing point q (take (suc k) ss)
      ≡ point_verdicts at net region crossing point q (take k ss)
      ++ selection_verdicts at net region crossing point (q + k) (get_or ss k d).region (get_or ss k d).holder
  by_more crossing point q k [] d lt = absurd (omega arith)
  by_more crossing point q zero (s ∷ ss) d lt =
      let e : q ≡ q + 0 = omega arith in
      append-nil (selection_verdicts at net region crossing point q s.region s.holder)
      ∙ ap (λ (i : ℕ). selection_verdicts at net region crossing point i s.region s.holder) e
  by_more crossing point q (suc k) (s ∷ ss) d lt =
      let e : q + 1 + k ≡ q + suc k = omega arith in
      let here = selection_verdicts at net region crossing point q s.region s.holder in
      let x = get_or ss k d in
      ap (λ (xs : List SelectionVerdict). here ++ xs)
      (by_more crossing point (q + 1) k ss d (le_of_suc-le-suc lt)
      ∙ ap (λ (i : ℕ). point_verdicts at net region crossing point (q + 1) (take k ss)
      ++ selection_verdicts at net region crossing point i x.region x.holder) e)
      ∙ sym (append_assoc here (point_verdicts at net region crossing point (q + 1) (take k ss))
      (selection_verdicts at net region crossing point (q + suc k) x.region x.holder))

  pub by_next : (crossing point k : ℕ) (ss : List Selection) (s : Selection) → k < length ss → s ≡ get_or ss k s
      → point_verdicts at net region crossing point 1 (take (k + 1) ss)
      ≡ point_verdicts at net region crossing point 1 (take k ss)
      ++ selection_verdicts at net region crossing point (k + 1) s.region s.holder
  by_next crossing point k ss s lt is =
      let first : 1 + k ≡ k + 1 = omega arith in
      ap (λ m. point_verdicts at net region crossing point 1 (take m ss)) (add-one k)
      ∙ by_more crossing point 1 k ss s lt ∙ ap₂ (λ (i : ℕ) (x : Selection). point_verdicts at net region crossing
      point 1 (take k ss) ++ selection_verdicts at net region crossing point i x.region x.holder) first (sym is)

  -- a selection process more
  pub adds_selection : (crossing point k : ℕ) (ss : List Selection) (s : Selection) (a b c : PathFate) → k < length ss
      → s ≡ get_or ss k s → AddsVerdicts a b (point_verdicts at net region crossing point 1 (take k ss))
      → AddsVerdicts b c (selection_verdicts at net region crossing point (k + 1) s.region s.holder)
      → AddsVerdicts a c (point_verdicts at net region crossing point 1 (take (k + 1) ss))
  adds_selection crossing point k ss s a b c lt is so new =
      subst (λ (xs : List SelectionVerdict). AddsVerdicts a c xs) (sym (by_next crossing point k ss s lt is))
      (adds_append a b c _ _ so new)

  abbrev pub at_one : ℕ → ℕ → Crossing → Point → List SelectionVerdict
  at_one number place crossing point = cond (watches point crossing)
      (point_verdicts at net region number place 1 point.selections) []

  at_more : (number n k : ℕ) (crossing : Crossing) (ps : List Point) (d : Point) → k < length ps
      → crossing_verdicts at net region number n (take (suc k) ps) crossing
      ≡ crossing_verdicts at net region number n (take k ps) crossing ++ at_one number (n + k) crossing (get_or ps k d)
  at_more number n k crossing [] d lt = absurd (omega arith)
  at_more number n zero crossing (p ∷ ps) d lt =
      let e : n ≡ n + 0 = omega arith in
      append-nil (at_one number n crossing p) ∙ ap (λ (i : ℕ). at_one number i crossing p) e
  at_more number n (suc k) crossing (p ∷ ps) d lt =
      let e : n + 1 + k ≡ n + suc k = omega arith in
      let here = at_one number n crossing p in
      let x = get_or ps k d in
      ap (λ (xs : List SelectionVerdict). here ++ xs)
      (at_more number (n + 1) k crossing ps d (le_of_suc-le-suc lt)
      ∙ ap (λ (i : ℕ). crossing_verdicts at net region number (n + 1) (take k ps) crossing
      ++ at_one number i crossing x) e) ∙ sym (append_assoc here
      (crossing_verdicts at net region number (n + 1) (take k ps) crossing) (at_one number (n + suc k) crossing x))

  pub at_next : (number k : ℕ) (crossing : Crossing) (ps : List Point) (p : Point) → k < length ps → p ≡ get_or ps k p
      → crossing_verdicts at net region number 1 (take (k + 1) ps) crossing
      ≡ crossing_verdicts at net region number 1 (take k ps) crossing ++ at_one number (k + 1) crossing p
  at_next number k crossing ps p lt is =
      let first : 1 + k ≡ k + 1 = omega arith in
      ap (λ m. crossing_verdicts at net region number 1 (take m ps) crossing) (add-one k)
      ∙ at_more number 1 k crossing ps p lt ∙ ap₂ (λ (i : ℕ) (x : Point). crossing_verdicts at net region number 1
      (take k ps) crossing ++ at_one number i crossing x) first (sym is)

  -- a point more
  pub adds_point : (number k : ℕ) (crossing : Crossing) (ps : List Point) (p : Point) (a b c : PathFate) → k < length ps
      → p ≡ get_or ps k p → AddsVerdicts a b (crossing_verdicts at net region number 1 (take k ps) crossing)
      → AddsVerdicts b c (at_one number (k + 1) crossing p)
      → AddsVerdicts a c (crossing_verdicts at net region number 1 (take (k + 1) ps) crossing)
  adds_point number k crossing ps p a b c lt is so new =
      subst (λ (xs : List SelectionVerdict). AddsVerdicts a c xs) (sym (at_next number k crossing ps p lt is))
      (adds_append a b c _ _ so new)

  abbrev pub at_crossing : ℕ → Crossing → List SelectionVerdict
  at_crossing n c = crossing_verdicts at net region n 1 (points_of (entry_numbered net.devices c.device)) c

  along_more : (n k : ℕ) (cs : List Crossing) (d : Crossing) → k < length cs
      → path_verdicts at net region n (take (suc k) cs) ≡ path_verdicts at net region n (take k cs)
      ++ at_crossing (n + k) (get_or cs k d)
  along_more n k [] d lt = absurd (omega arith)
  along_more n zero (c ∷ cs) d lt =
      let e : n ≡ n + 0 = omega arith in
      append-nil (at_crossing n c) ∙ ap (λ (i : ℕ). at_crossing i c) e
  along_more n (suc k) (c ∷ cs) d lt =
      let e : n + 1 + k ≡ n + suc k = omega arith in
      let here = at_crossing n c in
      let x = get_or cs k d in
      ap (λ (xs : List SelectionVerdict). here ++ xs)
      (along_more (n + 1) k cs d (le_of_suc-le-suc lt)
      ∙ ap (λ (i : ℕ). path_verdicts at net region (n + 1) (take k cs) ++ at_crossing i x) e)
      ∙ sym (append_assoc here (path_verdicts at net region (n + 1) (take k cs)) (at_crossing (n + suc k) x))

  pub along_next : (k : ℕ) (cs : List Crossing) (x : Crossing) → k < length cs → x ≡ get_or cs k x
      → path_verdicts at net region 1 (take (k + 1) cs) ≡ path_verdicts at net region 1 (take k cs)
      ++ at_crossing (k + 1) x
  along_next k cs x lt is =
      let first : 1 + k ≡ k + 1 = omega arith in
      ap (λ m. path_verdicts at net region 1 (take m cs)) (add-one k) ∙ along_more 1 k cs x lt
      ∙ ap₂ (λ (i : ℕ) (y : Crossing). path_verdicts at net region 1 (take k cs) ++ at_crossing i y) first (sym is)

  -- a crossing more
  pub adds_crossing : (k : ℕ) (cs : List Crossing) (x : Crossing) (a b c : PathFate) → k < length cs → x ≡ get_or cs k x
      → AddsVerdicts a b (path_verdicts at net region 1 (take k cs)) → AddsVerdicts b c (at_crossing (k + 1) x)
      → AddsVerdicts a c (path_verdicts at net region 1 (take (k + 1) cs))
  adds_crossing k cs x a b c lt is so new =
      subst (λ (xs : List SelectionVerdict). AddsVerdicts a c xs) (sym (along_next k cs x lt is))
      (adds_append a b c _ _ so new)
