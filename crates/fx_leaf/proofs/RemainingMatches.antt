-- Aggregations that remain for a region.
use Rattle.std.proofs.Common.{◌≡◌, ◌⊎◌, inl, inr, ℕ, zero, suc, ◌+◌, ◌<◌, List, [], ◌∷◌, ◌++◌, map, length, take, get_or, slice_get, Bool, true, false, cond, Option, Some, None, IfNone, is_some, Contains, refl, sym, ap, ◌∙◌, subst, arith, le_of_suc-le-suc}
use Rattle.std.specs.List.{AllByRecursion}
use Rattle.std.proofs.lemmas.List.{take_more}
use Rattle.fx_boxes.specs.Boxes.{Bounds, IsInside, IsRegion}
use Rattle.fx_layout.specs.Keys.{Layout}
use Rattle.fx_tables.specs.Network.{AggregationEntry, Net, Process, aggregations_of, exporters_of}
use Rattle.fx_leaf.specs.declared.verdict.Fate.TheVariants.{Never}
use Rattle.fx_leaf.specs.Remaining.{AcceptsNone, AreAggregations, AreRemaining}
use Rattle.fx_leaf.specs.declared.cause.Cause.{Cause}
use Rattle.fx_leaf.specs.declared.regions.Overlap.{Overlap}
use Rattle.fx_leaf.specs.Causes.{IsCauseInMatches}
use Rattle.fx_leaf.specs.Overlaps.{match_fields, region_overlap}
use Rattle.fx_leaf.specs.Tables.{Numbering, Table, Tables, entry, number_of_layout, taken_entry}
use Rattle.fx_leaf.specs.Verdicts.{Verdict, layout_reads, overlap_verdict, sent_verdict, verdict_of_both, verdict_of_all}
use Rattle.fx_leaf.proofs.JoinedVerdicts.{never_joined}
use Rattle.fx_leaf.proofs.OverlapsAreRight.{match_none}
use Rattle.fx_leaf.proofs.VerdictsWhereUncut.{further}

pub all_remain : (region : Bounds) (xs : List AggregationEntry) → AreRemaining region xs xs
all_remain region [] = refl
all_remain region (x ∷ xs) = inr (xs, refl, all_remain region xs)

-- ---- one more at the end

pub one_remains : (region : Bounds) (xs ks : List AggregationEntry) (a : AggregationEntry) → AreRemaining region xs ks
    → AreRemaining region (xs ++ a ∷ []) (ks ++ a ∷ [])
one_remains region [] ks a h = inr ([], ap (λ (l : List AggregationEntry). l ++ a ∷ []) h, refl)
one_remains region (x ∷ xs) ks a h = elim h [
  | inl out ↦ inl (out.0, one_remains region xs ks a out.1)
  | inr stays ↦ inr (
    stays.0 ++ a ∷ [],
    ap (λ (l : List AggregationEntry). l ++ a ∷ []) stays.1,
    one_remains region xs
        stays.0 a stays.2,
  )
]

pub one_left_out : (region : Bounds) (xs ks : List AggregationEntry) (a : AggregationEntry) → AcceptsNone region a
    → AreRemaining region xs ks → AreRemaining region (xs ++ a ∷ []) ks
one_left_out region [] ks a none h = inl (none, h)
one_left_out region (x ∷ xs) ks a none h = elim h [
  | inl out ↦ inl (out.0, one_left_out region xs ks a none out.1)
  | inr stays ↦ inr (stays.0, stays.1, one_left_out region xs stays.0 a none stays.2)
]

-- ---- regions within regions

pub remain_within : (part region : Bounds) (xs ks : List AggregationEntry) → IsInside part region
    → AreRemaining region xs ks → AreRemaining part xs ks
remain_within part region [] ks inside h = h
remain_within part region (x ∷ xs) ks inside h = elim h [
  | inl out ↦ inl ((λ f held. out.0 f (inside f held)), remain_within part region xs ks inside out.1)
  | inr stays ↦ inr (stays.0, stays.1, remain_within part region xs stays.0 inside stays.2)
]

pub remain_still : (region : Bounds) (xs ys zs : List AggregationEntry) → AreRemaining region xs ys
    → AreRemaining region ys zs → AreRemaining region xs zs
remain_still region [] ys zs h k = subst (λ (l : List AggregationEntry). AreRemaining region l zs) h k
remain_still region (x ∷ xs) ys zs h k = elim h [
  | inl out ↦ inl (out.0, remain_still region xs ys zs out.1 k)
  | inr stays ↦ elim (subst (λ (l : List AggregationEntry). AreRemaining region l zs) stays.1 k) [
    | inl out ↦ inl (out.0, remain_still region xs stays.0 zs stays.2 out.1)
    | inr kept ↦ inr (kept.0, kept.1, remain_still region xs stays.0 kept.0 stays.2 kept.2)
  ]
]

-- ---- what holds of all, and of those that remain

pub remaining_have : (P : AggregationEntry → Type 0) (region : Bounds) (xs ks : List AggregationEntry)
    → AreRemaining region xs ks → AllByRecursion P xs → AllByRecursion P ks
remaining_have P region [] ks h all = subst (AllByRecursion P) (sym h) tt
remaining_have P region (x ∷ xs) ks h all = elim h [
  | inl out ↦ remaining_have P region xs ks out.1 all.1
  | inr stays ↦ subst (AllByRecursion P) (sym stays.1) (all.0, remaining_have P region xs stays.0 stays.2 all.1)
]

pub remaining_joined : (f : AggregationEntry → Verdict) (region : Bounds) (xs ks : List AggregationEntry)
    → ((a : AggregationEntry) → AcceptsNone region a → f a ≡ Some Never) → AreRemaining region xs ks
    → verdict_of_all (map f ks) ≡ verdict_of_all (map f xs)
remaining_joined f region [] ks never h = ap (λ (l : List AggregationEntry). verdict_of_all (map f l)) h
remaining_joined f region (x ∷ xs) ks never h = elim h [
  | inl out ↦ remaining_joined f region xs ks never out.1
      ∙ sym (ap (λ (v : Verdict). verdict_of_both v (verdict_of_all (map f xs))) (never x out.0)
      ∙ never_joined (verdict_of_all (map f xs)))
  | inr stays ↦ ap (λ (l : List AggregationEntry). verdict_of_all (map f l)) stays.1
      ∙ ap (verdict_of_both (f x)) (remaining_joined f region xs stays.0 never stays.2)
]

or_further : {A : Type 0} (x a : A) (rest xs : List A) → Contains (x ∷ rest) a → (Contains rest a → Contains xs a)
    → Contains (x ∷ xs) a
or_further x a rest xs (zero, lt, e) among = (zero, omega arith, e)
or_further x a rest xs (suc k, lt, e) among = further a x xs (among (k, le_of_suc-le-suc lt, e))

pub remaining_among : (region : Bounds) (xs ks : List AggregationEntry) (a : AggregationEntry)
    → AreRemaining region xs ks → Contains ks a → Contains xs a
remaining_among region [] ks a h at = subst (λ (l : List AggregationEntry). Contains l a) h at
remaining_among region (x ∷ xs) ks a h at = elim h [
  | inl out ↦ further a x xs (remaining_among region xs ks a out.1 at)
  | inr stays ↦ or_further x a stays.0 xs (subst (λ (l : List AggregationEntry). Contains l a) stays.1 at)
      (remaining_among region xs stays.0 a stays.2)
]

pub have_at : {A : Type 0} (P : A → Type 0) (xs : List A) → AllByRecursion P xs → (k : ℕ) (d : A) → k < length xs
    → P (get_or xs k d)
have_at P [] all k d lt = absurd (omega arith)
have_at P (x ∷ xs) all zero d lt = all.0
have_at P (x ∷ xs) all (suc k) d lt = have_at P xs all.1 k d (le_of_suc-le-suc lt)

pub have_last : {A : Type 0} (P : A → Type 0) (xs : List A) (x : A) → AllByRecursion P xs → P x
    → AllByRecursion P (xs ++ x ∷ [])
have_last P [] x all h = (h, tt)
have_last P (y ∷ xs) x all h = (all.0, have_last P xs x all.1 h)

pub none_there : {A : Type 0} (o : Option A) (P : Type 0) → is_some o ≡ false → IfNone o P → P
none_there None P e h = h
none_there (Some x) P e h = absurd (cc)

-- ---- one after another

module _ (region : Bounds) (xs ks : List AggregationEntry) (k : ℕ) (a : AggregationEntry) (lt : k < length xs)
    (is : a ≡ get_or xs k a) (h : AreRemaining region (take k xs) ks) where
  taken : take k xs ++ a ∷ [] ≡ take (k + 1) xs
  taken = ap (λ (x : AggregationEntry). take k xs ++ x ∷ []) is ∙ sym (take_more xs k a lt)

  pub remains_next : (now : List AggregationEntry) → now ≡ ks ++ a ∷ [] → AreRemaining region (take (k + 1) xs) now
  remains_next now e = subst (λ (l : List AggregationEntry). AreRemaining region l now) taken
      (subst (AreRemaining region (take k xs ++ a ∷ [])) (sym e) (one_remains region (take k xs) ks a h))

  pub left_out_next : AcceptsNone region a → AreRemaining region (take (k + 1) xs) ks
  left_out_next none = subst (λ (l : List AggregationEntry). AreRemaining region l ks) taken
      (one_left_out region (take k xs) ks a none h)

-- ---- lists by collecting process

got_last : {A : Type 0} (xs : List A) (a : A) (k : ℕ) (x : A) → slice_get (xs ++ a ∷ []) k ≡ Some x
    → (slice_get xs k ≡ Some x) ⊎ ((k ≡ length xs) × (x ≡ a))
got_last [] a zero x e = inr (refl, cc)
got_last [] a (suc k) x e = absurd (cc)
got_last (y ∷ xs) a zero x e = inl e
got_last (y ∷ xs) a (suc k) x e = elim (got_last xs a k x e)
    [ inl there ↦ inl there | inr last ↦ inr (ap suc last.0, last.1) ]

pub one_more_list : (processes : List Process) (lists now : List (List AggregationEntry)) (place : ℕ) (p : Process)
    (all : List AggregationEntry) → length lists ≡ place → now ≡ lists ++ all ∷ [] → slice_get processes place ≡ Some p
    → all ≡ p.aggregations → AreAggregations processes lists → AreAggregations processes now
one_more_list processes lists now place p all long e there is h k x at =
    elim (got_last lists all k x (sym (ap (λ (l : List (List AggregationEntry)). slice_get l k) e) ∙ at)) [
      | inl before ↦ h k x before
      | inr last ↦ last.1 ∙ is ∙ sym (ap aggregations_of (ap (slice_get processes) (last.0 ∙ long) ∙ there))
    ]

-- ---- verdicts and causes

-- an aggregation whose match accepts none of the region's packets takes in none of their records
pub takes_none : (table : Table) (net : Net) (n : Numbering) (region : Bounds) (layout : Layout) (a : AggregationEntry)
    → IsRegion region → AcceptsNone region a → taken_entry table net n region layout a ≡ Some Never
takes_none table net n region layout a bounds none = go (layout_reads net layout a)
  where
    sent : Verdict
    sent = sent_verdict (entry table) net (number_of_layout n a.holder)
        (exporters_of net (slice_get net.holders a.holder))

    go : (b : Bool) → cond b (overlap_verdict (region_overlap region (match_fields a.matches)) sent) (Some Never)
        ≡ Some Never
    go true = ap (λ (o : Overlap). overlap_verdict o sent) (sym (match_none region a.matches bounds none))
    go false = refl

pub all_taken : (table : Table) (net : Net) (n : Numbering) (region : Bounds) (layout : Layout)
    (xs ks : List AggregationEntry) → IsRegion region → AreRemaining region xs ks
    → verdict_of_all (map (taken_entry table net n region layout) ks)
    ≡ verdict_of_all (map (taken_entry table net n region layout) xs)
all_taken table net n region layout xs ks bounds h =
    remaining_joined (taken_entry table net n region layout) region xs ks
    (λ a none. takes_none table net n region layout a bounds none) h

-- a cause in one that remains is a cause in one of all
pub cause_among_all : (t : Tables) (region : Bounds) (table : Table) (layout : Layout) (xs ks : List AggregationEntry)
    (cause : Cause) → AreRemaining region xs ks → IsCauseInMatches t region table layout ks cause
    → IsCauseInMatches t region table layout xs cause
cause_among_all t region table layout xs ks cause h c =
    record {
      aggregation = c.aggregation;
      among = remaining_among region xs ks c.aggregation h c.among;
      is_cause =
          c.is_cause;
    }
