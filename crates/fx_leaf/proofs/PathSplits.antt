-- What cuts a region along a path splits it at a bound of its own.
use Rattle.std.proofs.Common.{◌≡◌, ◌≢◌, ℕ, zero, suc, ◌+◌, true, cond, ◌++◌, List, [], ◌∷◌, Option, Some, None, Result, Ok, Err, refl, sym, ap, ◌∙◌, subst, arith, slice_get, if◌then◌else◌, IfSome, IfNone, IfOk, IfErr, IsErr, IsErrAnd, IsSome, le_of_suc-le-suc}
use Rattle.std.specs.Prelude.{Contains, ◌↔◌}
use Rattle.std.specs.Result.{result_err}
use Rattle.fx_base.specs.declared.fault.Fault.{Fault}
use Rattle.fx_base.specs.declared.fault.Place.TheVariants as places
use Rattle.fx_base.specs.Fault.{fault_at}
use Rattle.fx_elements.specs.declared.axis.Axis.{Axis}
use Rattle.fx_elements.specs.Axes.{Fields, axis_index}
use Rattle.fx_boxes.specs.Boxes.{Bounds, IsRegion, IsStrictlyInside}
use Rattle.fx_layout.specs.Keys.{key_of}
use Rattle.fx_tables.specs.declared.observation.Occurrence.{Occurrence}
use Rattle.fx_tables.specs.declared.observation.Selection.{Selection}
use Rattle.fx_tables.specs.declared.traffic.Crossing.{Crossing}
use Rattle.fx_tables.specs.Network.{Net, Point, points_of, exporters_of, layout_of}
use Rattle.fx_base.specs.Entries.{entry_numbered}
use Rattle.fx_tables.specs.Occurrences.{selects, occurrence, met_by, watches, met_at, occurrences}
use Rattle.fx_machine.specs.Acts.{Act, Hold}
use Rattle.fx_machine.specs.Steps.{meet, crossing_acts}
use Rattle.fx_leaf.specs.declared.regions.Overlap.TheVariants.{Whole, Part}
use Rattle.fx_leaf.specs.declared.leaf.Counted.{Counted}
use Rattle.fx_leaf.specs.declared.verdict.Fate.TheVariants.{Never, Once, Many, Differing, Unassigned}
use Rattle.fx_leaf.specs.declared.cause.Cause.TheVariants.{Behind}
use Rattle.fx_tables.specs.Ranks.{IsNetwork}
use Rattle.fx_leaf.specs.Answers.{NothingCuts}
use Rattle.fx_leaf.specs.Fates.{acts_along}
use Rattle.fx_leaf.specs.declared.path.PathFate.{PathFate}
use Rattle.fx_leaf.specs.Leaves.{IsPathFate, numbers_of, leaf_of, path_leaf}
use Rattle.fx_leaf.specs.Causes.{IsCauseByHolder, Starts, HasNoVerdict}
use Rattle.fx_leaf.specs.Reach.{IsMarked, HoldsBehindHolder, IsFilled}
use Rattle.fx_leaf.specs.SoundLeaves.{Uncut}
use Rattle.fx_leaf.specs.SoundLeaves.Reached.{first}
use Rattle.fx_leaf.specs.Splits.{IsSplitBy, Meets, IsSplit, HeldAlong}
use Rattle.fx_leaf.specs.Splits.IsSplit.{of_selection, of_match}
use Rattle.fx_leaf.specs.Overlaps.{selection_overlap}
use Rattle.fx_leaf.specs.Tables.{Tables, Table, AreTables, number_of_layout, entry}
use Rattle.fx_leaf.specs.Verdicts.{Verdict, sent_verdict, holder_verdict, verdict, path_verdict, counter}
use Rattle.fx_leaf.proofs.Answers.{low_holds, some_is_fate}
use Rattle.fx_leaf.proofs.CausesCut.{numbered_holder, sends_feed, no_verdict_within}
use Rattle.fx_leaf.proofs.RowsAreVerdicts.{holder_same}
use Rattle.fx_leaf.proofs.OverlapsAreRight.{selection_overlap_is, region_overlap_is}
use Rattle.fx_leaf.proofs.VerdictsWhereUncut.{in_front, behind, mapped}

pub some_more : {A : Type 0} (P Q : A → Type 0) (o : Option A) → ((x : A) → P x → Q x) → IfSome o P → IfSome o Q
some_more P Q None f h = tt
some_more P Q (Some x) f h = f x h

pub none_more : {A : Type 0} (P Q : Type 0) (o : Option A) → (P → Q) → IfNone o P → IfNone o Q
none_more P Q None f h = f h
none_more P Q (Some x) f h = tt

pub err_more : {X E : Type 0} (P Q : E → Type 0) (r : Result X E) → ((e : E) → P e → Q e) → IfErr r P → IfErr r Q
err_more P Q (Ok x) f h = tt
err_more P Q (Err e) f h = f e h

-- what a call that failed said is so of what is passed on
pub exit_with : {X E : Type 0} (r : Result X E) (e : E) (Q : E → Type 0) → IsErr r × IsErrAnd r (λ d. d ≡ e) → Q e
    → IfErr r Q
exit_with (Ok x) e Q h q = absurd h.1
exit_with (Err d) e Q h q = subst Q (sym h.1) q

-- ---- a holder

module _ (t : Tables) (are : AreTables t) (region : Bounds) (r : IsRegion region) (table : Table) where
  pub starts_at : (path : List Crossing) (holder process number : ℕ)
      → IsCauseByHolder t table holder (Behind process number) → HeldAlong t.net path region holder
      → Starts t region path process number
  starts_at path holder process number s held =
      let sends = s.1 in
      let key = key_of (layout_of (slice_get t.net.holders holder)) region.low in
      record {
        fields = region.low;
        holder = holder;
        here = low_holds region r;
        layout_is = ap (slice_get t.numbering.layouts) s.0
            ∙ numbered_holder t are.numbers holder (slice_get t.net.holders holder) refl sends.exporter sends.sends;
        reached = first (Hold holder key) process key held
            (sends.exporter, sends.sends, (sends.on.link, sends.on.among, sends.on.leads, refl));
      }

  pub no_verdict_there : (holder process number : ℕ) → IsCauseByHolder t table holder (Behind process number)
      → HasNoVerdict t table process number
  no_verdict_there holder process number s =
      let sends = s.1 in (
        sends.on.none,
        (
          layout_of (slice_get t.net.holders holder),
          ap (slice_get t.numbering.layouts) s.0
              ∙ numbered_holder t are.numbers holder (slice_get t.net.holders holder) refl sends.exporter sends.sends,
        ),
      )

  -- the collecting process is marked
  pub marked_there : (marks : List ℕ) → IsFilled t.net t.numbering region marks table → (holder process number : ℕ)
      → HoldsBehindHolder t.net t.numbering (IsMarked marks) holder
      → IsCauseByHolder t table holder (Behind process number) → IsMarked marks process number
  marked_there marks filled holder process number marked s =
      subst (IsMarked marks process) (sym s.0)
      (marked process (sends_feed t are region r table number (exporters_of t.net (slice_get t.net.holders holder))
      process s.1 (no_verdict_within t are region r table marks filled process number
      (no_verdict_there holder process number s))))

  -- where no verdict is wanting behind the holder, the holder has one
  pub not_by_holder : (marks : List ℕ) → IsFilled t.net t.numbering region marks table → (holder : ℕ)
      → HoldsBehindHolder t.net t.numbering (IsMarked marks) holder
      → (sent_verdict (entry table) t.net (number_of_layout t.numbering holder)
      (exporters_of t.net (slice_get t.net.holders holder)) ≡ None → ⊥)
      → holder_verdict (verdict t.net region) t.net holder ≡ None → ⊥
  not_by_holder marks filled holder marked none h =
      none (holder_same t.net t.numbering region are.network.ranked are.numbers are.reports table filled.size holder
      (λ q. λ f. filled.verdicts q (number_of_layout t.numbering holder) (marked q f)) ∙ h)

-- ---- what is met is held

module _ (net : Net) (fields : Fields) (s : Selection) (holder : ℕ) (cached : s.holder ≡ Some holder)
    (on : selects s.region fields ≡ true) where
  -- an occurrence with this cache
  abbrev Met : List Occurrence → Type 0
  Met os = (o : Occurrence) × Contains os o × (o.holder ≡ holder)

  met_here : (n p : ℕ) (x : Selection) (rest : List Occurrence) → x ≡ s
      → Met ((if selects x.region fields then occurrence n p x.holder else []) ++ rest)
  met_here n p x rest same =
      let o : Occurrence = record { point = n; process = p; holder = holder } in
      let picked : selects x.region fields ≡ true = ap (λ (y : Selection). selects y.region fields) same ∙ on in
      let own : x.holder ≡ Some holder = ap (λ (y : Selection). y.holder) same ∙ cached in (
        o,
        subst (λ b. Contains (cond b (occurrence n p x.holder) [] ++ rest) o) (sym picked)
            (subst (λ h. Contains (occurrence n p h ++ rest) o) (sym own) (zero, omega arith, refl)),
        refl,
      )

  met_later : (xs ys : List Occurrence) → Met ys → Met (xs ++ ys)
  met_later xs ys m = (m.0, behind xs ys m.0 m.1, m.2)

  met_first : (xs ys : List Occurrence) → Met xs → Met (xs ++ ys)
  met_first xs ys m = (m.0, in_front xs ys m.0 m.1, m.2)

  met_in : (n p : ℕ) (ss : List Selection) → Contains ss s → Met (met_by n p ss fields)
  met_in n p [] at = absurd (let lt = at.1 in omega (arith, lt))
  met_in n p (x ∷ xs) (zero, lt, e) = met_here n p x (met_by n (p + 1) xs fields) e
  met_in n p (x ∷ xs) (suc k, lt, e) =
      met_later (if selects x.region fields then occurrence n p x.holder else []) (met_by n (p + 1) xs fields)
      (met_in n (p + 1) xs (k, le_of_suc-le-suc lt, e))

  module _ (crossing : Crossing) (point : Point) (watched : watches point crossing ≡ true)
      (among : Contains point.selections s) where
    point_here : (n : ℕ) (p : Point) (rest : List Occurrence) → p ≡ point
        → Met ((if watches p crossing then met_by n 1 p.selections fields else []) ++ rest)
    point_here n p rest same =
        let seen : watches p crossing ≡ true = ap (λ (q : Point). watches q crossing) same ∙ watched in
        let own : Contains p.selections s = subst (λ (q : Point). Contains q.selections s) (sym same) among in
        met_first (if watches p crossing then met_by n 1 p.selections fields else []) rest
        (subst (λ b. Met (cond b (met_by n 1 p.selections fields) [])) (sym seen) (met_in n 1 p.selections own))

    met_among : (n : ℕ) (points : List Point) → Contains points point → Met (met_at n points crossing fields)
    met_among n [] at = absurd (let lt = at.1 in omega (arith, lt))
    met_among n (p ∷ ps) (zero, lt, e) = point_here n p (met_at (n + 1) ps crossing fields) e
    met_among n (p ∷ ps) (suc k, lt, e) =
        met_later (if watches p crossing then met_by n 1 p.selections fields else [])
        (met_at (n + 1) ps crossing fields) (met_among (n + 1) ps (k, le_of_suc-le-suc lt, e))

    abbrev held : Act
    held = Hold holder (key_of (layout_of (slice_get net.holders holder)) fields)

    held_there : Contains (points_of (entry_numbered net.devices crossing.device)) point
        → Contains (crossing_acts net fields (Some crossing)) held
    held_there seen =
        let m = met_among 1 (points_of (entry_numbered net.devices crossing.device)) seen in
        subst (λ h. Contains (crossing_acts net fields (Some crossing))
        (Hold h (key_of (layout_of (slice_get net.holders h)) fields))) m.2
        (mapped (meet net fields) (occurrences net crossing fields) m.0 m.1)

    held_along : (path : List Crossing) → Contains path crossing
        → Contains (points_of (entry_numbered net.devices crossing.device)) point
        → Contains (acts_along net fields path) held
    held_along [] at seen = absurd (let lt = at.1 in omega (arith, lt))
    held_along (c ∷ cs) (zero, lt, e) seen =
        in_front (crossing_acts net fields (Some c)) (acts_along net fields cs) held
        (subst (λ (x : Crossing). Contains (crossing_acts net fields (Some x)) held) (sym e) (held_there seen))
    held_along (c ∷ cs) (suc k, lt, e) seen =
        behind (crossing_acts net fields (Some c)) (acts_along net fields cs) held
        (held_along cs (k, le_of_suc-le-suc lt, e) seen)

pub meets_held : (net : Net) (path : List Crossing) (region : Bounds) (s : Selection) (holder : ℕ) → IsRegion region
    → s.holder ≡ Some holder → selection_overlap region s.region ≡ Whole → Meets net path s
    → HeldAlong net path region holder
meets_held net path region s holder r cached all m =
    let on = (selection_overlap_is region s.region r).whole all region.low (low_holds region r) in
    held_along net region.low s holder cached on m.crossing m.point m.watched m.among path m.crosses m.there

pub selection_split : (net : Net) (path : List Crossing) (region other : Bounds) (s : Selection) (holder : ℕ)
    (axis : Axis) (at : ℕ) → IsRegion region → s.holder ≡ Some holder → s.region ≡ Some other
    → selection_overlap region s.region ≡ Part → IsSplitBy region other axis at → Meets net path s
    → IsSplit net path region axis at
selection_split net path region other s holder axis at r cached selected cut by m =
    of_selection s other m (λ none. absurd (let e : Some holder ≡ None = sym cached ∙ none in cc)) selected
    ((region_overlap_is region other r).part (ap (selection_overlap region) (sym selected) ∙ cut)) by

-- what splits a region cuts it
pub split_cuts : (net : Net) (path : List Crossing) (region : Bounds) (axis : Axis) (at : ℕ)
    → IsSplit net path region axis at → NothingCuts net path region → ⊥
split_cuts net path region axis at (of_selection s other m cached selected cuts by) nothing =
    cuts (subst (λ o. Uncut region (selects o)) selected
    (nothing.0 m.crossing m.point s m.crosses m.there m.watched m.among cached))
split_cuts net path region axis at (of_match a reach cuts by) nothing =
    cuts (nothing.1 reach.fields reach.process reach.key a reach.here reach.reached reach.among reach.read)

pub split_inside : (net : Net) (path : List Crossing) (region : Bounds) (axis : Axis) (at : ℕ)
    → IsSplit net path region axis at → IsStrictlyInside region (axis_index axis) at
split_inside net path region axis at (of_selection s other m cached selected cuts by) = by.inside
split_inside net path region axis at (of_match a reach cuts by) = by.inside

numbers_same : (a b : Result Counted Fault) (f g : Fault) → a ≡ Err f → b ≡ Err g → a ≡ b → f.number ≡ g.number
numbers_same a b f g x y e = let same : f ≡ g = cc in ap (λ (x : Fault). x.number) same

other : {v : Verdict} (n : ℕ) (a b : Result Counted Fault) → n ≢ 406 → a ≡ Err (fault_at n places.None) → b
    ≡ Err (fault_at 406 places.None) → a ≡ b → v ≡ None
other n a b differs x y e = absurd (differs
    (numbers_same a b (fault_at n places.None) (fault_at 406 places.None) x y e))

module _ (net : Net) (path : List Crossing) (region : Bounds) (is_net : IsNetwork net) (r : IsRegion region) where
  -- what is cut has no verdict
  none_if_cut : (v : Verdict) → path_verdict net region path ≡ v → (NothingCuts net path region → ⊥)
      → path_verdict net region path ≡ None
  none_if_cut None e cuts = e
  none_if_cut (Some f) e cuts = absurd (cuts (some_is_fate net path region is_net r f e).0)

  -- 406 is answered for nothing else
  only_none : (v : Verdict) (c : Option Counted) → leaf_of v c ≡ Err (fault_at 406 places.None) → v ≡ None
  only_none None c e = refl
  only_none (Some Never) c e = other 407 _ _ (omega arith) refl refl e
  only_none (Some Once) None e = other 407 _ _ (omega arith) refl refl e
  only_none (Some Once) (Some s) e = absurd (cc)
  only_none (Some Many) c e = other 408 _ _ (omega arith) refl refl e
  only_none (Some Differing) c e = other 409 _ _ (omega arith) refl refl e
  only_none (Some Unassigned) c e = other 413 _ _ (omega arith) refl refl e

  -- there is no verdict where this splits the region
  pub no_verdict : (s : Axis × ℕ) → IsSplit net path region s.0 s.1 → path_verdict net region path ≡ None
  no_verdict s h = none_if_cut (path_verdict net region path) refl (split_cuts net path region s.0 s.1 h)

  module _ (o : Option (Axis × ℕ)) (known : Result PathFate (Axis × ℕ)) (is : o ≡ result_err known)
      (ok : IfOk known (IsPathFate net path region)) (err : IfErr known (λ s. IsSplit net path region s.0 s.1)) where
    some : IfSome o (λ s. IsSplit net path region s.0 s.1)
    some = subst (λ x. IfSome x (λ s. IsSplit net path region s.0 s.1)) (sym is) (by known err) where
      by : (q : Result PathFate (Axis × ℕ)) → IfErr q (λ s. IsSplit net path region s.0 s.1)
          → IfSome (result_err q) (λ s. IsSplit net path region s.0 s.1)
      by (Ok t) h = tt
      by (Err s) h = h

    none : IfNone o (path_verdict net region path ≡ None → ⊥)
    none = subst (λ x. IfNone x (path_verdict net region path ≡ None → ⊥)) (sym is) (by known ok) where
      by : (q : Result PathFate (Axis × ℕ)) → IfOk q (IsPathFate net path region)
          → IfNone (result_err q) (path_verdict net region path ≡ None → ⊥)
      by (Ok t) h = λ e. absurd (let both : Some t.fate ≡ None = h.verdict ∙ e in cc)
      by (Err s) h = tt

    pub exactly_cut : IsSome o ↔ (path_leaf net path region ≡ Err (fault_at 406 places.None))
    exactly_cut = by o some none where
      by : (x : Option (Axis × ℕ)) → IfSome x (λ s. IsSplit net path region s.0 s.1)
          → IfNone x (path_verdict net region path ≡ None → ⊥) → IsSome x
          ↔ (path_leaf net path region ≡ Err (fault_at 406 places.None))
      by None some none = (
        λ h. absurd (cc),
        λ h.
            absurd (none (only_none (path_verdict net region path) (numbers_of (counter net region path)) h)),
      )
      by (Some s) some none = (
        λ h. ap (λ v. leaf_of v (numbers_of (counter net region path)))
            (none_if_cut (path_verdict net region path) refl (split_cuts net path region s.0 s.1 some)),
        λ h. refl,
      )

    pub cut_exactly : IsSome o ↔ (NothingCuts net path region → ⊥)
    cut_exactly = by o some none where
      by : (x : Option (Axis × ℕ)) → IfSome x (λ s. IsSplit net path region s.0 s.1)
          → IfNone x (path_verdict net region path ≡ None → ⊥) → IsSome x ↔ (NothingCuts net path region → ⊥)
      by None some none = (λ h. absurd (cc), λ h. absurd (none (none_if_cut (path_verdict net region path) refl h)))
      by (Some s) some none = (λ h. split_cuts net path region s.0 s.1 some, λ h. refl)

    -- and it is strictly inside
    pub cut_inside : IfSome o (λ s. IsStrictlyInside region (axis_index s.0) s.1)
    cut_inside = some_more _ _ o (λ x. λ h. split_inside net path region x.0 x.1 h) some

    pub cut_bound : IfSome o (λ s. IsSplit net path region s.0 s.1)
    cut_bound = some
