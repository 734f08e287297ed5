-- The verdict on a path is that of the selection processes that it meets, in any order, without those that are apart.
use Rattle.std.proofs.Common.{◌≡◌, ◌≢◌, inl, inr, ℕ, zero, suc, ◌+◌, ◌<◌, min, IfOk, OnOk, Result, Ok, Err, Bool, true, false, cond, List, [], ◌∷◌, ◌++◌, map, length, take, get_or, Contains, Option, Some, None, refl, sym, ap, ap₂, ◌∙◌, subst, arith, le_of_suc-le-suc, append-nil, append_assoc}
use Rattle.std.specs.List.Sorted.{IsPermutation}
use Rattle.std.proofs.lemmas.List.{take_more}
use Rattle.std.proofs.lemmas.List.Elements.{Contains-append_left, Contains-append_right, Contains-append_cases}
use Rattle.std.proofs.lemmas.List.Sorted.{IsPermutation-map, IsPermutation-sym, Contains-permutation}
use Rattle.fx_elements.specs.declared.axis.Axis.{Axis}
use Rattle.fx_boxes.specs.Boxes.{Bounds, IsDisjoint, IsRegion}
use Rattle.fx_tables.specs.declared.observation.Selection.{Selection}
use Rattle.fx_tables.specs.declared.traffic.Crossing.{Crossing}
use Rattle.fx_tables.specs.Network.{Net, Point, points_of}
use Rattle.fx_base.specs.Entries.{entry_numbered}
use Rattle.fx_tables.specs.Occurrences.{watches}
use Rattle.fx_leaf.specs.declared.path.PathFate.{PathFate}
use Rattle.fx_leaf.specs.declared.regions.Overlap.{Overlap}
use Rattle.fx_leaf.specs.declared.regions.Overlap.TheVariants.{Nothing, Part}
use Rattle.fx_leaf.specs.declared.verdict.Fate.TheVariants.{Never, Once}
use Rattle.fx_leaf.specs.Leaves.{AddsVerdicts, IsPathFate, numbers_of, nothing_known}
use Rattle.fx_leaf.specs.Overlaps.{region_overlap, selection_overlap}
use Rattle.fx_leaf.specs.PathSelections.{PathSelection, point_selections, watching_selections, crossing_selections, path_selections, IsApart, IsNarrowed}
use Rattle.fx_leaf.specs.Splits.{Meets, IsSplit, IsSplitBy, joint_verdict}
use Rattle.fx_leaf.specs.Splits.IsSplit.{of_selection}
use Rattle.fx_leaf.specs.Verdicts.{Verdict, VerdictAt, SelectionVerdict, verdict, verdict_of_both, verdict_of_all, overlap_verdict, holder_verdict, selection_verdicts, point_verdicts, crossing_verdicts, path_verdicts, path_verdict, verdicts_of, last_counter}
use Rattle.fx_leaf.proofs.CutsHaveBounds.{overlap_cut}
use Rattle.fx_leaf.proofs.CountedOnce.{one_counter, the_counter, in_any_order}
use Rattle.fx_leaf.proofs.JoinedVerdicts.{never_joined}
use Rattle.fx_leaf.proofs.OverlapsAreRight.{disjoint_overlap, region_overlap_is}
use Rattle.fx_leaf.proofs.PathFateGrows.{adds_append, joint_verdict_append}

-- ---- those that a path meets

module _ (net : Net) (path : List Crossing) (crossing : Crossing) (crosses : Contains path crossing) (point : Point)
    (there : Contains (points_of (entry_numbered net.devices crossing.device)) point)
    (watched : watches point crossing ≡ true) where
  met_processes : (n p q : ℕ) (ss : List Selection) (e : PathSelection)
      → ((s : Selection) → Contains ss s → Contains point.selections s) → Contains (point_selections n p q ss) e
      → Meets net path e.selection
  met_processes n p q [] e all at = absurd (let within = at.1 in omega (arith, within))
  met_processes n p q (s ∷ ss) e all (zero, within, is) =
      record {
        crossing = crossing;
        point = point;
        crosses = crosses;
        there = there;
        watched = watched;
        among = all e.selection (zero, omega arith, ap (λ (x : PathSelection). x.selection) is);
      }
  met_processes n p q (s ∷ ss) e all (suc k, within, is) =
      met_processes n p (q + 1) ss e (λ x at. all x (suc at.0, (let less = at.1 in omega (arith, less)), at.2))
      (k, le_of_suc-le-suc within, is)

module _ (net : Net) (path : List Crossing) (crossing : Crossing) (crosses : Contains path crossing) where
  met_watching : (n p : ℕ) (point : Point) (e : PathSelection)
      → Contains (points_of (entry_numbered net.devices crossing.device)) point
      → Contains (watching_selections n p crossing point) e → Meets net path e.selection
  met_watching n p point e there at = by (watches point crossing) refl at
    where
      by : (b : Bool) → watches point crossing ≡ b → Contains (cond b (point_selections n p 1 point.selections) []) e
          → Meets net path e.selection
      by true is at' = met_processes net path crossing crosses point there is n p 1 point.selections e
          (λ s among. among) at'
      by false is at' = absurd (let within = at'.1 in omega (arith, within))

  met_points : (n p : ℕ) (ps : List Point) (e : PathSelection)
      → ((x : Point) → Contains ps x → Contains (points_of (entry_numbered net.devices crossing.device)) x)
      → Contains (crossing_selections n p ps crossing) e → Meets net path e.selection
  met_points n p [] e all at = absurd (let within = at.1 in omega (arith, within))
  met_points n p (x ∷ xs) e all at = elim (Contains-append_cases (watching_selections n p crossing x)
      (crossing_selections n (p + 1) xs crossing) e at) [
        | inl here ↦ met_watching n p x e (all x (zero, omega arith, refl)) here
        | inr later ↦ met_points n (p + 1) xs e
            (λ y among. all y (suc among.0, (let less = among.1 in omega (arith, less)), among.2)) later
      ]

met_crossings : (net : Net) (path : List Crossing) (n : ℕ) (cs : List Crossing) (e : PathSelection)
    → ((c : Crossing) → Contains cs c → Contains path c) → Contains (path_selections net n cs) e
    → Meets net path e.selection
met_crossings net path n [] e all at = absurd (let within = at.1 in omega (arith, within))
met_crossings net path n (c ∷ cs) e all at =
    elim (Contains-append_cases (crossing_selections n 1 (points_of (entry_numbered net.devices c.device)) c)
    (path_selections net (n + 1) cs) e at) [
      | inl here ↦ met_points net path c (all c (zero, omega arith, refl)) n 1
          (points_of (entry_numbered net.devices c.device)) e (λ x among. among) here
      | inr later ↦ met_crossings net path (n + 1) cs e
          (λ d among. all d (suc among.0, (let less = among.1 in omega (arith, less)), among.2)) later
    ]

pub all_meet : (net : Net) (path : List Crossing) (e : PathSelection) → Contains (path_selections net 1 path) e
    → Meets net path e.selection
all_meet net path e at = met_crossings net path 1 path e (λ c among. among) at

-- ---- their verdicts

module _ (at : VerdictAt) (net : Net) (region : Bounds) where
  abbrev pub of_one : PathSelection → List SelectionVerdict
  of_one s = selection_verdicts at net region s.crossing s.point s.process s.selection.region s.selection.holder

  of_append : (xs ys : List PathSelection) → verdicts_of at net region (xs ++ ys) ≡ verdicts_of at net region xs
      ++ verdicts_of at net region ys
  of_append [] ys = refl
  of_append (x ∷ xs) ys = ap (λ (vs : List SelectionVerdict). of_one x ++ vs) (of_append xs ys)
      ∙ sym (append_assoc (of_one x) (verdicts_of at net region xs) (verdicts_of at net region ys))

  of_processes : (n p q : ℕ) (ss : List Selection) → point_verdicts at net region n p q ss
      ≡ verdicts_of at net region (point_selections n p q ss)
  of_processes n p q [] = refl
  of_processes n p q (s ∷ ss) = ap (λ (vs : List SelectionVerdict). selection_verdicts at net region n p q s.region
      s.holder ++ vs) (of_processes n p (q + 1) ss)

  of_watching : (n p : ℕ) (c : Crossing) (x : Point)
      → cond (watches x c) (point_verdicts at net region n p 1 x.selections) []
      ≡ verdicts_of at net region (watching_selections n p c x)
  of_watching n p c x = by (watches x c)
    where
      by : (b : Bool) → cond b (point_verdicts at net region n p 1 x.selections) []
          ≡ verdicts_of at net region (cond b (point_selections n p 1 x.selections) [])
      by true = of_processes n p 1 x.selections
      by false = refl

  of_points : (n p : ℕ) (ps : List Point) (c : Crossing) → crossing_verdicts at net region n p ps c
      ≡ verdicts_of at net region (crossing_selections n p ps c)
  of_points n p [] c = refl
  of_points n p (x ∷ xs) c = ap₂ (λ (us vs : List SelectionVerdict). us ++ vs) (of_watching n p c x)
      (of_points n (p + 1) xs c) ∙ sym (of_append (watching_selections n p c x) (crossing_selections n (p + 1) xs c))

  of_crossings : (n : ℕ) (cs : List Crossing) → path_verdicts at net region n cs
      ≡ verdicts_of at net region (path_selections net n cs)
  of_crossings n [] = refl
  of_crossings n (c ∷ cs) =
      let ps = points_of (entry_numbered net.devices c.device) in
      ap₂ (λ (us vs : List SelectionVerdict). us ++ vs) (of_points n 1 ps c) (of_crossings (n + 1) cs)
      ∙ sym (of_append (crossing_selections n 1 ps c) (path_selections net (n + 1) cs))

  -- ---- one more

  pub known_more : (k : ℕ) (xs : List PathSelection) (x : PathSelection) (a b c : PathFate) → k < length xs → x
      ≡ get_or xs k x → AddsVerdicts a b (verdicts_of at net region (take k xs)) → AddsVerdicts b c (of_one x)
      → AddsVerdicts a c (verdicts_of at net region (take (k + 1) xs))
  known_more k xs x a b c lt is so new =
      let all : take (k + 1) xs ≡ take k xs ++ x ∷ [] = take_more xs k x lt
      ∙ ap (λ (y : PathSelection). take k xs ++ y ∷ []) (sym is) in
      let both : verdicts_of at net region (take (k + 1) xs) ≡ verdicts_of at net region (take k xs) ++ of_one x =
      ap (verdicts_of at net region) all ∙ of_append (take k xs) (x ∷ [])
      ∙ ap (λ (vs : List SelectionVerdict). verdicts_of at net region (take k xs) ++ vs) (append-nil (of_one x)) in
      subst (AddsVerdicts a c) (sym both) (adds_append a b c (verdicts_of at net region (take k xs)) (of_one x) so new)

  -- ---- in another order

  single : PathSelection → Verdict
  single s = joint_verdict (of_one s)

  by_single : (xs : List PathSelection) → joint_verdict (verdicts_of at net region xs)
      ≡ verdict_of_all (map (λ s. joint_verdict (of_one s)) xs)
  by_single [] = refl
  by_single (x ∷ xs) = joint_verdict_append (of_one x) (verdicts_of at net region xs)
      ∙ ap (verdict_of_both (joint_verdict (of_one x))) (by_single xs)

  reordered : (xs ys : List PathSelection) → IsPermutation xs ys → joint_verdict (verdicts_of at net region ys)
      ≡ joint_verdict (verdicts_of at net region xs)
  reordered xs ys moved = by_single ys ∙ in_any_order (map (λ s. joint_verdict (of_one s)) xs)
      (map (λ s. joint_verdict (of_one s)) ys) (IsPermutation-map (λ s. joint_verdict (of_one s)) xs ys moved)
      ∙ sym (by_single xs)

  -- ---- without those that are apart

  apart_never : (s : PathSelection) → IsApart region s.selection → joint_verdict (of_one s) ≡ Some Never
  apart_never s (inl none) = ap (λ (h : Option ℕ). joint_verdict
      (selection_verdicts at net region s.crossing s.point s.process s.selection.region h)) none
  apart_never s (inr apart) = by s.selection.holder
    where
      overlap : (o : Option Bounds) → s.selection.region ≡ o → selection_overlap region o ≡ Nothing
      overlap None is = refl
      overlap (Some other) is = disjoint_overlap region other (apart other is)

      by : (h : Option ℕ) → joint_verdict (selection_verdicts at net region s.crossing s.point s.process
          s.selection.region h) ≡ Some Never
      by None = refl
      by (Some holder) = ap (λ (o : Overlap). verdict_of_both (overlap_verdict o (holder_verdict at net holder))
          (Some Never)) (overlap s.selection.region refl)

  narrowed_tail : (x : PathSelection) (xs : List PathSelection) (m : ℕ) → IsNarrowed (x ∷ xs) region (suc m)
      → IsNarrowed xs region m
  narrowed_tail x xs m h k d from less = h (suc k) d (omega (arith, from)) (omega (arith, less))

  narrowed_all : (x : PathSelection) (xs : List PathSelection) → IsNarrowed (x ∷ xs) region 0 → IsNarrowed xs region 0
  narrowed_all x xs h k d from less = h (suc k) d (omega arith) (omega (arith, less))

  without_others : (xs : List PathSelection) (m : ℕ) → IsNarrowed xs region m
      → joint_verdict (verdicts_of at net region xs) ≡ joint_verdict (verdicts_of at net region (take m xs))
  without_others [] zero h = refl
  without_others [] (suc m) h = refl
  without_others (x ∷ xs) zero h =
      joint_verdict_append (of_one x) (verdicts_of at net region xs)
      ∙ ap₂ verdict_of_both (apart_never x (h 0 x (omega arith) (omega arith)))
      (without_others xs zero (narrowed_all x xs h)) ∙ refl
  without_others (x ∷ xs) (suc m) h =
      joint_verdict_append (of_one x) (verdicts_of at net region xs)
      ∙ ap (verdict_of_both (joint_verdict (of_one x))) (without_others xs m (narrowed_tail x xs m h))
      ∙ sym (joint_verdict_append (of_one x) (verdicts_of at net region (take m xs)))

  -- ---- whose verdict it is

  among_of : (xs : List PathSelection) (w : SelectionVerdict) → Contains (verdicts_of at net region xs) w
      → (s : PathSelection) × Contains xs s × Contains (of_one s) w
  among_of [] w here = absurd (let within = here.1 in omega (arith, within))
  among_of (x ∷ xs) w here = elim (Contains-append_cases (of_one x) (verdicts_of at net region xs) w here) [
    | inl first ↦ (x, (zero, omega arith, refl), first)
    | inr later ↦ let r = among_of xs w later in
        (r.0, (suc r.1.0, (let less = r.1.1 in omega (arith, less)), r.1.2), r.2)
  ]

  of_among : (xs : List PathSelection) (s : PathSelection) (w : SelectionVerdict) → Contains xs s
      → Contains (of_one s) w → Contains (verdicts_of at net region xs) w
  of_among [] s w there here = absurd (let within = there.1 in omega (arith, within))
  of_among (x ∷ xs) s w (zero, within, is) here =
      Contains-append_left (of_one x) (verdicts_of at net region xs) w
      (subst (λ (y : PathSelection). Contains (of_one y) w) (sym is) here)
  of_among (x ∷ xs) s w (suc k, within, is) here =
      Contains-append_right (of_one x) (verdicts_of at net region xs) w
      (of_among xs s w (k, le_of_suc-le-suc within, is) here)

taken_among : (xs : List PathSelection) (m : ℕ) (s : PathSelection) → Contains (take m xs) s → Contains xs s
taken_among [] zero s here = absurd (let within = here.1 in omega (arith, within))
taken_among [] (suc m) s here = absurd (let within = here.1 in omega (arith, within))
taken_among (x ∷ xs) zero s here = absurd (let within = here.1 in omega (arith, within))
taken_among (x ∷ xs) (suc m) s (zero, within, is) = (zero, omega arith, is)
taken_among (x ∷ xs) (suc m) s (suc k, within, is) =
    let r = taken_among xs m s (k, le_of_suc-le-suc within, is) in
    (suc r.0, (let less = r.1 in omega (arith, less)), r.2)

pub among_path : (net : Net) (path : List Crossing) (xs : List PathSelection) (m : ℕ) (s : PathSelection)
    → IsPermutation (path_selections net 1 path) xs → Contains (take m xs) s → Contains (path_selections net 1 path) s
among_path net path xs m s moved here =
    Contains-permutation xs (path_selections net 1 path) s (IsPermutation-sym (path_selections net 1 path) xs moved)
    (taken_among xs m s here)

-- what is known with the first of them, where the others are apart, is known of the path
pub known_of_path : (net : Net) (path : List Crossing) (region : Bounds) (xs : List PathSelection) (m : ℕ)
    (t : PathFate) → IsPermutation (path_selections net 1 path) xs → IsNarrowed xs region m
    → AddsVerdicts nothing_known t (verdicts_of (verdict net region) net region (take m xs))
    → IsPathFate net path region t
known_of_path net path region xs m t moved narrowed adds = record {
  verdict = is ∙ same;
  counted = λ once.
      let here : joint_verdict first ≡ Some Once = sym is ∙ ap Some once in
      let w = one_counter None first here in
      let from = among_of at net region (take m xs) w.0 w.1.among in
      let there : Contains every w.0 = of_among at net region (path_selections net 1 path) from.0 w.0
      (among_path net path xs m from.0 moved from.1) from.2 in
      let whole : joint_verdict every ≡ Some Once = ap joint_verdict (sym of_path) ∙ sym same ∙ here in
      adds.counted None refl ∙ ap numbers_of (w.1.last ∙ sym (the_counter None every w.0 whole there w.1.once)
      ∙ ap (last_counter None) (sym of_path));
}
  where
    at : VerdictAt
    at = verdict net region

    first : List SelectionVerdict
    first = verdicts_of (verdict net region) net region (take m xs)

    every : List SelectionVerdict
    every = verdicts_of (verdict net region) net region (path_selections net 1 path)

    of_path : path_verdicts (verdict net region) net region 1 path
        ≡ verdicts_of (verdict net region) net region (path_selections net 1 path)
    of_path = of_crossings (verdict net region) net region 1 path

    is : Some t.fate ≡ joint_verdict (verdicts_of (verdict net region) net region (take m xs))
    is = adds.verdict ∙ never_joined (joint_verdict (verdicts_of (verdict net region) net region (take m xs)))

    same : joint_verdict (verdicts_of (verdict net region) net region (take m xs)) ≡ path_verdict net region path
    same = sym (without_others (verdict net region) net region xs m narrowed)
        ∙ reordered (verdict net region) net region (path_selections net 1 path) xs moved
        ∙ ap joint_verdict (sym of_path)

-- no more than there are need to be looked at
pub narrowed_within : (xs : List PathSelection) (region : Bounds) (active m : ℕ) → m ≡ min active (length xs)
    → IsNarrowed xs region active → IsNarrowed xs region m
narrowed_within xs region active m is h k d from less = h k d (omega (arith, is, from, less)) less

pub ok_more : {X E : Type 0} (P Q : X → Type 0) (r : Result X E) → ((x : X) → P x → Q x) → IfOk r P → IfOk r Q
ok_more P Q (Ok x) f h = f x h
ok_more P Q (Err e) f h = tt

pub on_ok_more : {E : Type 0} (P Q : Type 0) (r : Result (Unit {0}) E) → (P → Q) → OnOk r P → OnOk r Q
on_ok_more P Q (Ok x) f h = f h
on_ok_more P Q (Err e) f h = tt

-- a bound of what cuts the region splits it
pub split_by_cut : (net : Net) (path : List Crossing) (region other : Bounds) (s : Selection) (axis : Axis) (at : ℕ)
    → IsRegion region → s.holder ≢ None → s.region ≡ Some other → region_overlap region other ≡ Part
    → IsSplitBy region other axis at → Meets net path s → IsSplit net path region axis at
split_by_cut net path region other s axis at r cached selected cut by meets =
    of_selection s other meets cached selected ((region_overlap_is region other r).part cut) by

-- a bound strictly inside the region, of what isn't apart from it, splits it
pub split_by_bound : (net : Net) (path : List Crossing) (region other : Bounds) (s : Selection) (axis : Axis) (at : ℕ)
    → IsRegion region → (IsApart region s → ⊥) → s.region ≡ Some other → IsSplitBy region other axis at
    → Meets net path s → IsSplit net path region axis at
split_by_bound net path region other s axis at r near selected by meets =
    split_by_cut net path region other s axis at r (λ none. near (inl none)) selected
    (overlap_cut region other axis at r overlaps by) by meets
  where
    overlaps : IsDisjoint region other → ⊥
    overlaps apart = near (inr (λ x is.
        let both : Some other ≡ Some x = sym selected ∙ is in
        let same : other ≡ x = cc in
        subst (IsDisjoint region) same apart))
