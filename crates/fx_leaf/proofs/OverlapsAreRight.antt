-- An overlap says how much of a region is in another, is selected, or matches.
use Rattle.std.proofs.Common.{◌≡◌, ◌⊎◌, inl, inr, ℕ, ◌+◌, ◌-◌, ◌*◌, ◌/◌, ◌^◌, ◌<◌, ◌≤◌, Bool, true, false, cond, ◌&&◌, ◌||◌, nat_le, nat_lt, max, min, List, [], ◌∷◌, Option, Some, None, refl, sym, ap, ◌∙◌, subst, true≢false, arith, slice_index, le-leb, leb-true, ltb-true, eqb-true, eq-eqb, if◌then◌else◌, pow-add, IfSome, IfNone, ◌↔◌, take, drop, length, get_or}
use Rattle.std.proofs.lemmas.List.{take_all}
use Rattle.std.proofs.Math.Nat.{mul-le-mul_right, pow-le-pow_right, le-div_iff_mul-le, lt-div-mul-add, div-eq_of_lt-le}
use Rattle.std.proofs.lemmas.Nat.{pow_pos}
use Rattle.std.specs.List.{list_all, list_any}
use Rattle.fx_elements.specs.declared.axis.Axis.{Axis}
use Rattle.fx_elements.specs.Axes.{Fields, field, axes, tops, axis_index, axis_width, same_axis}
use Rattle.fx_elements.proofs.EveryAxis.{axis_is, index_below, on_axes, on_axis, on_none, same_axis_refl, value_at, width_most}
use Rattle.fx_boxes.specs.Boxes.{Bounds, IsRegion, Holds, IsInside, IsDisjoint, holds, is_between}
use Rattle.fx_boxes.proofs.Holding.{holds_is, holds_if}
use Rattle.fx_layout.proofs.Projections.{and_true, and_both}
use Rattle.fx_tables.specs.declared.aggregation.MatchEntry.{MatchEntry}
use Rattle.fx_tables.specs.Matches.{IsEntry}
use Rattle.fx_tables.specs.Occurrences.{selects}
use Rattle.fx_leaf.specs.declared.regions.Overlap.{Overlap}
use Rattle.fx_leaf.specs.declared.regions.Overlap.TheVariants.{Whole, Part, Nothing}
use Rattle.fx_leaf.specs.SoundLeaves.{Uncut, matches_packet}
use Rattle.fx_leaf.specs.Overlaps.{low_at, high_at, common, is_empty, is_within, region_overlap, selection_overlap, all_fields, entry_low, entry_high, begins_with, entry_fields, match_fields, IsOverlap}

-- ---- tests on each axis

pub some_of : (p : Axis → Bool) (xs : List Axis) → list_any p xs ≡ true → (axis : Axis) × (p axis ≡ true)
some_of p [] h = absurd (cc)
some_of p (x ∷ xs) h =
    elim (p x) as (λ t. p x ≡ t → (t || list_any p xs) ≡ true → (axis : Axis) × (p axis ≡ true)) [
      | true ↦ λ e k. (x, e)
      | false ↦ λ e k. some_of p xs k
    ] refl h

pub not_all_of : (p : Axis → Bool) (xs : List Axis) → list_all p xs ≡ false → (axis : Axis) × (p axis ≡ false)
not_all_of p [] h = absurd (cc)
not_all_of p (x ∷ xs) h =
    elim (p x) as (λ t. p x ≡ t → (t && list_all p xs) ≡ false → (axis : Axis) × (p axis ≡ false)) [
      | true ↦ λ e k. not_all_of p xs k
      | false ↦ λ e k. (x, e)
    ] refl h

-- ---- fields that are in a region

pub record In (b : Bounds) (fields : Fields) : Type 0 where
  pub low : (axis : Axis) → low_at b axis ≤ field fields axis
  pub high : (axis : Axis) → field fields axis ≤ high_at b axis

pub is_in : (b : Bounds) (fields : Fields) → holds b fields ≡ true → In b fields
is_in b fields h =
    let at = on_axis (λ axis. is_between b fields (axis_index axis)) h in
    record {
      low = λ axis. leb-true _ _ (and_true (nat_le (low_at b axis) (field fields axis)) _ (at axis)).0;
      high = λ axis. leb-true _ _ (and_true (nat_le (low_at b axis) (field fields axis)) _ (at axis)).1;
    }

pub in_holds : (b : Bounds) (fields : Fields) → In b fields → holds b fields ≡ true
in_holds b fields h =
    on_axes (λ axis. is_between b fields (axis_index axis))
    (λ axis. and_both _ _ (le-leb _ _ (h.low axis)) (le-leb _ _ (h.high axis)))

pub common_low : (a b : Bounds) (axis : Axis) → low_at (common a b) axis ≡ max (low_at a axis) (low_at b axis)
common_low a b axis = value_at (λ axis. max (low_at a axis) (low_at b axis)) axis

pub common_high : (a b : Bounds) (axis : Axis) → high_at (common a b) axis ≡ min (high_at a axis) (high_at b axis)
common_high a b axis = value_at (λ axis. min (high_at a axis) (high_at b axis)) axis

max_left : (a b : ℕ) → a ≤ max a b
max_left a b = omega arith

pub in_common : (a b : Bounds) (fields : Fields) → In a fields → In b fields → In (common a b) fields
in_common a b fields h k = record {
  low = λ axis. let e = common_low a b axis in let x = h.low axis in let y = k.low axis in omega (arith, e, x, y);
  high = λ axis. let e = common_high a b axis in let x = h.high axis in let y = k.high axis in omega (arith, e, x, y);
}

pub common_left : (a b : Bounds) (fields : Fields) → In (common a b) fields → In a fields
common_left a b fields h = record {
  low = λ axis. let e = common_low a b axis in let x = h.low axis in omega (arith, e, x);
  high = λ axis. let e = common_high a b axis in let x = h.high axis in omega (arith, e, x);
}

pub common_right : (a b : Bounds) (fields : Fields) → In (common a b) fields → In b fields
common_right a b fields h = record {
  low = λ axis. let e = common_low a b axis in let x = h.low axis in omega (arith, e, x);
  high = λ axis. let e = common_high a b axis in let x = h.high axis in omega (arith, e, x);
}

-- ---- how much of a region is in another

-- no low is above its high
abbrev pub Ordered : Bounds → Type 0
Ordered b = (axis : Axis) → low_at b axis ≤ high_at b axis

pub ordered : (region : Bounds) → IsRegion region → Ordered region
ordered region r axis = (r (axis_index axis) (index_below axis)).0

pub is_low : (region : Bounds) → Ordered region → In region region.low
is_low region r = record {
  low = λ axis. omega arith;
  high = λ axis. r axis;
}

is_high : (region : Bounds) → Ordered region → In region region.high
is_high region r = record {
  low = λ axis. r axis;
  high = λ axis. omega arith;
}

pub not_below : (a b : ℕ) → nat_lt a b ≡ false → b ≤ a
not_below a b e = grind (arith, e)

-- fields in both, where no axis keeps them apart
pub meeting : (a b : Bounds) → is_empty (common a b) ≡ false → In (common a b) (common a b).low
meeting a b e = record {
  low = λ axis. omega arith;
  high = λ axis.
      let p : nat_lt (high_at (common a b) axis) (low_at (common a b) axis) ≡ false =
      on_none (λ axis. nat_lt (high_at (common a b) axis) (low_at (common a b) axis)) e axis in
      not_below _ _ p;
}

apart : (a b : Bounds) (fields : Fields) → is_empty (common a b) ≡ true → In a fields → In b fields → ⊥
apart a b fields e h k =
    let both = in_common a b fields h k in
    let where' = some_of (λ axis. nat_lt (high_at (common a b) axis) (low_at (common a b) axis)) axes e in
    let axis = where'.0 in
    let lt : high_at (common a b) axis < low_at (common a b) axis = ltb-true _ _ where'.1 in
    let low = both.low axis in
    let high = both.high axis in
    absurd (omega (arith, lt, low, high))

within : (a b : Bounds) (fields : Fields) → is_within a b ≡ true → In a fields → In b fields
within a b fields e h = record {
  low = λ axis. let le = leb-true _ _ (both axis).0 in let x = h.low axis in omega (arith, le, x);
  high = λ axis. let le = leb-true _ _ (both axis).1 in let x = h.high axis in omega (arith, le, x);
}
  where
    both : (axis : Axis) → (nat_le (low_at b axis) (low_at a axis) ≡ true)
        × (nat_le (high_at a axis) (high_at b axis) ≡ true)
    both axis = and_true (nat_le (low_at b axis) (low_at a axis)) (nat_le (high_at a axis) (high_at b axis))
        (on_axis (λ axis. nat_le (low_at b axis) (low_at a axis) && nat_le (high_at a axis) (high_at b axis)) e axis)

pub one_of : (a b : Bool) → (a && b) ≡ false → (a ≡ false) ⊎ (b ≡ false)
one_of true b h = inr h
one_of false b h = inl refl

-- fields of the first that aren't in the second
outside : (a b : Bounds) → Ordered a → is_within a b ≡ false → (fields : Fields) × In a fields × (In b fields → ⊥)
outside a b r e =
    let found = not_all_of (λ axis. nat_le (low_at b axis) (low_at a axis) && nat_le (high_at a axis) (high_at b axis))
    axes e in
    let axis = found.0 in
    elim (one_of (nat_le (low_at b axis) (low_at a axis)) (nat_le (high_at a axis) (high_at b axis)) found.1) [
      | inl f ↦ (a.low, is_low a r, λ h. let le = le-leb _ _ (h.low axis) in true≢false (sym le ∙ f))
      | inr f ↦ (a.high, is_high a r, λ h. let le = le-leb _ _ (h.high axis) in true≢false (sym le ∙ f))
    ]

pub region_overlap_is : (region other : Bounds) → IsRegion region
    → IsOverlap region (holds other) (region_overlap region other)
region_overlap_is region other r =
    elim (is_empty (common region other)) as (λ t. is_empty (common region other) ≡ t
    → IsOverlap region (holds other) (cond t Nothing (cond (is_within region other) Whole Part))) [
      | true ↦ λ e. record {
        whole = λ is. absurd (cc);
        nothing = λ is. λ fields. λ h. no_more (holds other fields)
            (λ yes. apart region other fields e (is_in region fields h) (is_in other fields yes));
        part = λ is. absurd (cc);
      }
      | false ↦ λ e.
          elim (is_within region other) as (λ t. is_within region other ≡ t
          → IsOverlap region (holds other) (cond t Whole Part)) [
            | true ↦ λ w. record {
              whole = λ is. λ fields. λ h. in_holds other fields (within region other fields w (is_in region fields h));
              nothing = λ is. absurd (cc);
              part = λ is. absurd (cc);
            }
            | false ↦ λ w. record {
              whole = λ is. absurd (cc);
              nothing = λ is. absurd (cc);
              part = λ is. λ uncut. both_ways e w uncut;
            }
          ] refl
    ] refl
  where
    no_more : (t : Bool) → (t ≡ true → ⊥) → t ≡ false
    no_more true h = absurd (h refl)
    no_more false h = refl

    both_ways : is_empty (common region other) ≡ false → is_within region other ≡ false → Uncut region (holds other) → ⊥
    both_ways e w (inl all) =
        let out = outside region other (ordered region r) w in
        out.2 (is_in other out.0 (all out.0 (in_holds region out.0 out.1)))
    both_ways e w (inr none) =
        let m = meeting region other e in
        let p = (common region other).low in
        let yes : holds other p ≡ true = in_holds other p (common_right region other p m) in
        let no : holds other p ≡ false = none p (in_holds region p (common_left region other p m)) in
        true≢false (sym yes ∙ no)

pub no_overlap_is : (region : Bounds) → IsOverlap region (λ fields. false) Nothing
no_overlap_is region = record {
  whole = λ is. absurd (cc);
  nothing = λ is. λ fields. λ h. refl;
  part =
      λ is. absurd (cc);
}

-- ---- matches

pub all_in : (region : Bounds) (fields : Fields) → IsRegion region → In region fields → In all_fields fields
all_in region fields r h = record {
  low = λ axis. let e = value_at (λ axis. 0) axis in omega (arith, e);
  high = λ axis. let x = h.high axis in let y = (r (axis_index axis) (index_below axis)).1 in omega (arith, x, y);
}

-- the values that begin with some bits are those from a least to a greatest
begins : (s v x : ℕ) → 0 < s → v / s ≡ x → (x * s ≤ v) × (v ≤ x * s + (s - 1))
begins s v x pos e =
    let low : x * s ≤ v = (le-div_iff_mul-le {k = s} {x = x} {y = v} pos).0
    (let le : x ≤ v / s = omega (arith, e) in le) in
    let high : v < x * s + s = subst (λ y. v < y * s + s) e (lt-div-mul-add {a = v} {b = s} pos) in
    (low, at_most v (x * s) s pos high)
  where
    at_most : (v p s : ℕ) → 0 < s → v < p + s → v ≤ p + (s - 1)
    at_most v p s pos lt = omega arith

begun : (s v x : ℕ) → 0 < s → x * s ≤ v → v ≤ x * s + (s - 1) → v / s ≡ x
begun s v x pos low high = div-eq_of_lt-le {k = x} s {m = v} low
    (subst (λ y. v < y) (sym (mul_more x s)) (below v (x * s) s pos high))
  where
    below : (v p s : ℕ) → 0 < s → v ≤ p + (s - 1) → v < p + s
    below v p s pos le = omega arith

    mul_more : (x s : ℕ) → (x + 1) * s ≡ x * s + s
    mul_more x s = grind arith

entry_in : (e : MatchEntry) (fields : Fields) → In all_fields fields → begins_with e fields ≡ true
    → In (entry_fields e) fields
entry_in e fields all h =
    let s = 2 ^ (axis_width e.axis - e.bits) in
    let range = begins s (field fields e.axis) e.value (pow_pos (axis_width e.axis - e.bits)) (eqb-true _ _ h) in
    record {
      low = λ axis. subst (λ n. n ≤ field fields axis)
          (sym (value_at (λ axis. if same_axis axis e.axis then entry_low e else 0) axis))
          (elim (same_axis axis e.axis)
          as (λ t. same_axis axis e.axis ≡ t → cond t (entry_low e) 0 ≤ field fields axis) [
            | true ↦ λ same. subst (λ a. entry_low e ≤ field fields a) (sym (axis_is axis e.axis same)) range.0
            | false ↦ λ same. omega arith
          ] refl);
      high = λ axis. subst (λ n. field fields axis ≤ n)
          (sym (value_at (λ axis. if same_axis axis e.axis then entry_high e else slice_index tops (axis_index axis))
          axis)) (elim (same_axis axis e.axis) as (λ t. same_axis axis e.axis ≡ t → field fields axis
          ≤ cond t (entry_high e) (slice_index tops (axis_index axis))) [
            | true ↦ λ same. subst (λ a. field fields a ≤ entry_high e) (sym (axis_is axis e.axis same)) range.1
            | false ↦ λ same. all.high axis
          ] refl);
    }

entry_out : (e : MatchEntry) (fields : Fields) → In (entry_fields e) fields → begins_with e fields ≡ true
entry_out e fields h =
    let s = 2 ^ (axis_width e.axis - e.bits) in
    let same = same_axis_refl e.axis in
    let low : entry_low e ≤ field fields e.axis =
    subst (λ n. n ≤ field fields e.axis) (value_at (λ axis. if same_axis axis e.axis then entry_low e else 0) e.axis
    ∙ ap (λ t. cond t (entry_low e) 0) same) (h.low e.axis) in
    let high : field fields e.axis ≤ entry_high e =
    subst (λ n. field fields e.axis ≤ n) (value_at
    (λ axis. if same_axis axis e.axis then entry_high e else slice_index tops (axis_index axis)) e.axis
    ∙ ap (λ t. cond t (entry_high e) (slice_index tops (axis_index e.axis))) same) (h.high e.axis) in
    eq-eqb _ _ (begun s (field fields e.axis) e.value (pow_pos (axis_width e.axis - e.bits)) low high)

pub match_in : (es : List MatchEntry) (fields : Fields) → In all_fields fields → matches_packet es fields ≡ true
    → In (match_fields es) fields
match_in [] fields all h = all
match_in (e ∷ es) fields all h =
    let two = and_true (begins_with e fields) (matches_packet es fields) h in
    in_common (entry_fields e) (match_fields es) fields (entry_in e fields all two.0) (match_in es fields all two.1)

pub match_out : (es : List MatchEntry) (fields : Fields) → In (match_fields es) fields → matches_packet es fields ≡ true
match_out [] fields h = refl
match_out (e ∷ es) fields h =
    and_both _ _ (entry_out e fields (common_left (entry_fields e) (match_fields es) fields h))
    (match_out es fields (common_right (entry_fields e) (match_fields es) fields h))

same_test : (a b : Bool) → (a ≡ true → b ≡ true) → (b ≡ true → a ≡ true) → a ≡ b
same_test true true h k = refl
same_test true false h k = sym (h refl)
same_test false true h k = k refl
same_test false false h k = refl

match_same : (es : List MatchEntry) (fields : Fields) → In all_fields fields → holds (match_fields es) fields
    ≡ matches_packet es fields
match_same es fields all =
    same_test _ _ (λ h. match_out es fields (is_in (match_fields es) fields h))
    (λ h. in_holds (match_fields es) fields (match_in es fields all h))

same_overlap : (region : Bounds) (test other : Fields → Bool) (overlap : Overlap)
    → ((fields : Fields) → holds region fields ≡ true → test fields ≡ other fields) → IsOverlap region test overlap
    → IsOverlap region other overlap
same_overlap region test other overlap same t = record {
  whole = λ is. λ fields. λ h. sym (same fields h) ∙ t.whole is fields h;
  nothing = λ is. λ fields. λ h. sym (same fields h) ∙ t.nothing is fields h;
  part = λ is. λ uncut. t.part is (back uncut);
}
  where
    back : Uncut region other → Uncut region test
    back (inl h) = inl (λ fields. λ k. same fields k ∙ h fields k)
    back (inr h) = inr (λ fields. λ k. same fields k ∙ h fields k)

-- how much of a region matches
pub match_overlap_is : (region : Bounds) (es : List MatchEntry) → IsRegion region
    → IsOverlap region (matches_packet es) (region_overlap region (match_fields es))
match_overlap_is region es r =
    same_overlap region (holds (match_fields es)) (matches_packet es) (region_overlap region (match_fields es))
    (λ fields. λ h. match_same es fields (all_in region fields r (is_in region fields h)))
    (region_overlap_is region (match_fields es) r)

-- how much of it a selection process selects
pub selection_overlap_is : (region : Bounds) (selected : Option Bounds) → IsRegion region
    → IsOverlap region (selects selected) (selection_overlap region selected)
selection_overlap_is region None r = no_overlap_is region
selection_overlap_is region (Some other) r = region_overlap_is region other r

-- ---- the same in a program's terms

pub to_in : (b : Bounds) (fields : Fields) → Holds b fields → In b fields
to_in b fields h = is_in b fields (holds_if b fields h)

pub from_in : (b : Bounds) (fields : Fields) → In b fields → Holds b fields
from_in b fields h = holds_is b fields (in_holds b fields h)

-- a region that is within another has fields in common with it
pub not_disjoint : (region other : Bounds) → IsRegion region → IsInside region other → IsDisjoint region other → ⊥
not_disjoint region other r inside apart = apart region.low held (inside region.low held) where
  held : Holds region region.low
  held k lt = let bounds = r k lt in (omega arith, bounds.0)

pub disjoint_overlap : (region other : Bounds) → IsDisjoint region other → region_overlap region other ≡ Nothing
disjoint_overlap region other none =
    elim (is_empty (common region other)) as (λ t. is_empty (common region other) ≡ t
    → cond t Nothing (cond (is_within region other) Whole Part) ≡ Nothing) [
      | true ↦ λ e. refl
      | false ↦ λ e.
          let m = meeting region other e in
          let p = (common region other).low in
          absurd (none p (from_in region p (common_left region other p m))
          (from_in other p (common_right region other p m)))
    ] refl

not_empty : (region other : Bounds) → (IsDisjoint region other → ⊥) → is_empty (common region other) ≡ false
not_empty region other some = by (is_empty (common region other)) refl where
  by : (t : Bool) → is_empty (common region other) ≡ t → is_empty (common region other) ≡ false
  by true e = absurd (some (λ f. λ h. λ k. apart region other f e (to_in region f h) (to_in other f k)))
  by false e = e

pub inside_overlap : (region other : Bounds) → (IsDisjoint region other → ⊥) → IsInside region other
    → region_overlap region other ≡ Whole
inside_overlap region other some all =
    ap (λ t. cond t Nothing (cond (is_within region other) Whole Part)) (not_empty region other some)
    ∙ elim (is_within region other) as (λ t. is_within region other ≡ t → cond t Whole Part ≡ Whole) [
      | true ↦ λ e. refl
      | false ↦ λ e. let out = outside region other (met (not_empty region other some)) e in
          absurd (out.2 (to_in other out.0 (all out.0 (from_in region out.0 out.1))))
    ] refl
  where
    met : is_empty (common region other) ≡ false → Ordered region
    met e axis =
        let m = common_left region other (common region other).low (meeting region other e) in
        let low = m.low axis in
        let high = m.high axis in
        omega (arith, low, high)

pub cut_overlap : (region other : Bounds) → (IsDisjoint region other → ⊥) → (IsInside region other → ⊥)
    → region_overlap region other ≡ Part
cut_overlap region other some less =
    ap (λ t. cond t Nothing (cond (is_within region other) Whole Part)) (not_empty region other some)
    ∙ elim (is_within region other) as (λ t. is_within region other ≡ t → cond t Whole Part ≡ Part) [
      | true ↦ λ e. absurd (less (λ f. λ h. from_in other f (within region other f e (to_in region f h))))
      | false ↦ λ e. refl
    ] refl

-- ---- entries in a program's terms

-- an entry's values end below the end of its axis
entry_ends : (e : MatchEntry) → IsEntry e → entry_high e < 2 ^ axis_width e.axis
entry_ends e h =
    let free = axis_width e.axis - e.bits in
    let whole : 2 ^ axis_width e.axis ≡ 2 ^ e.bits * 2 ^ free =
    ap (λ n. 2 ^ n) (let le = h.0 in let k : axis_width e.axis ≡ e.bits + free = omega (arith, le) in k)
    ∙ pow-add 2 e.bits free in
    let more : (e.value + 1) * 2 ^ free ≤ 2 ^ e.bits * 2 ^ free =
    mul-le-mul_right (2 ^ free) (let lt = h.1 in let k : e.value + 1 ≤ 2 ^ e.bits = omega (arith, lt) in k) in
    let split : (e.value + 1) * 2 ^ free ≡ e.value * 2 ^ free + 2 ^ free = grind arith in
    last (e.value * 2 ^ free) (2 ^ free) (2 ^ axis_width e.axis) (pow_pos free)
    (subst (λ n. n ≤ 2 ^ axis_width e.axis) split (subst (λ n. (e.value + 1) * 2 ^ free ≤ n) (sym whole) more))
  where
    last : (p s w : ℕ) → 0 < s → p + s ≤ w → p + (s - 1) < w
    last p s w pos le = omega arith

-- its values have at most 128 bits
pub high_fits : (e : MatchEntry) → IsEntry e → entry_high e < 2 ^ 128
high_fits e h =
    let ends = entry_ends e h in
    let grows : 2 ^ axis_width e.axis ≤ 2 ^ 128 = pow-le-pow_right {n = 2} (omega arith) (width_most e.axis) in
    omega (arith, ends, grows)

pub low_fits : (e : MatchEntry) → IsEntry e → entry_low e < 2 ^ 128
low_fits e h = let high = high_fits e h in omega (arith, high)

pub entry_begins : (e : MatchEntry) (fields : Fields) → begins_with e fields ≡ true
    → (entry_low e ≤ field fields e.axis) × (field fields e.axis ≤ entry_high e)
entry_begins e fields h = begins (2 ^ (axis_width e.axis - e.bits)) (field fields e.axis) e.value
    (pow_pos (axis_width e.axis - e.bits)) (eqb-true _ _ h)

pub entry_begun : (e : MatchEntry) (fields : Fields) → entry_low e ≤ field fields e.axis → field fields e.axis
    ≤ entry_high e → begins_with e fields ≡ true
entry_begun e fields low high = eq-eqb _ _
    (begun (2 ^ (axis_width e.axis - e.bits)) (field fields e.axis) e.value (pow_pos (axis_width e.axis - e.bits)) low
    high)

not_true : (b : Bool) → (b ≡ true → ⊥) → b ≡ false
not_true true h = absurd (h refl)
not_true false h = refl

-- what is left of a region where an entry holds
pub none_above : (e : MatchEntry) (fields : Fields) → field fields e.axis < entry_low e → begins_with e fields ≡ false
none_above e fields lt = not_true (begins_with e fields)
    (λ h. let low = (entry_begins e fields h).0 in absurd (omega (arith, lt, low)))

pub none_below : (e : MatchEntry) (fields : Fields) → entry_high e < field fields e.axis → begins_with e fields ≡ false
none_below e fields lt = not_true (begins_with e fields)
    (λ h. let high = (entry_begins e fields h).1 in absurd (omega (arith, lt, high)))

abbrev Cut : Bounds → Bounds → (Fields → Type 0) → Type 0
Cut cut whole by = (f : Fields) → Holds cut f ↔ (Holds whole f × by f)

pub entry_part_some : (e : MatchEntry) (region above : Bounds) (o : Option Bounds) (least most : ℕ) → least
    ≡ entry_low e → most ≡ entry_high e → Cut above region (λ f. least ≤ field f e.axis)
    → IfSome o (λ r. Cut r above (λ f. field f e.axis ≤ most))
    → IfSome o (λ r. Cut r region (λ f. begins_with e f ≡ true))
entry_part_some e region above None least most low high first second = tt
entry_part_some e region above (Some r) least most low high first second = λ f. (forth f, back f) where
  forth : (f : Fields) → Holds r f → Holds region f × (begins_with e f ≡ true)
  forth f h =
      let s = (second f).0 h in
      let t = (first f).0 s.0 in
      let a = t.1 in
      let b = s.1 in
      (t.0, entry_begun e f (omega (arith, a, low)) (omega (arith, b, high)))

  back : (f : Fields) → Holds region f × (begins_with e f ≡ true) → Holds r f
  back f h =
      let range = entry_begins e f h.1 in
      let a = range.0 in
      let b = range.1 in
      (second f).1 ((first f).1 (h.0, omega (arith, a, low)), omega (arith, b, high))

pub entry_part_none : (e : MatchEntry) (region above : Bounds) (o : Option Bounds) (least most : ℕ) → least
    ≡ entry_low e → most ≡ entry_high e → Cut above region (λ f. least ≤ field f e.axis)
    → IfNone o ((f : Fields) → Holds above f → most < field f e.axis)
    → IfNone o ((f : Fields) → Holds region f → begins_with e f ≡ false)
entry_part_none e region above (Some r) least most low high first second = tt
entry_part_none e region above None least most low high first second = λ f. λ here. not_true (begins_with e f) (λ h.
    let range = entry_begins e f h in
    let a = range.0 in
    let b = range.1 in
    let far = second f ((first f).1 (here, omega (arith, a, low))) in
    absurd (omega (arith, b, far, high)))

-- ---- matches in a program's terms

pub matched_some : (e : MatchEntry) (es : List MatchEntry) (region left : Bounds) (o : Option Bounds)
    → Cut left region (λ f. begins_with e f ≡ true) → IfSome o (λ r. Cut r left (λ f. matches_packet es f ≡ true))
    → IfSome o (λ r. Cut r region (λ f. matches_packet (e ∷ es) f ≡ true))
matched_some e es region left None first second = tt
matched_some e es region left (Some r) first second = λ f. (forth f, back f) where
  forth : (f : Fields) → Holds r f → Holds region f × (matches_packet (e ∷ es) f ≡ true)
  forth f h =
      let s = (second f).0 h in
      let t = (first f).0 s.0 in
      (t.0, and_both _ _ t.1 s.1)

  back : (f : Fields) → Holds region f × (matches_packet (e ∷ es) f ≡ true) → Holds r f
  back f h =
      let two = and_true (begins_with e f) (matches_packet es f) h.1 in
      (second f).1 ((first f).1 (h.0, two.0), two.1)

pub matched_none : (e : MatchEntry) (es : List MatchEntry) (region left : Bounds) (o : Option Bounds)
    → Cut left region (λ f. begins_with e f ≡ true)
    → IfNone o ((f : Fields) → Holds left f → matches_packet es f ≡ false)
    → IfNone o ((f : Fields) → Holds region f → matches_packet (e ∷ es) f ≡ false)
matched_none e es region left (Some r) first second = tt
matched_none e es region left None first second = λ f. λ here. not_true (matches_packet (e ∷ es) f) (λ h.
    let two = and_true (begins_with e f) (matches_packet es f) h in
    true≢false (sym two.1 ∙ second f ((first f).1 (here, two.0))))

-- an entry that holds of none
pub unmatched : (e : MatchEntry) (es : List MatchEntry) (region : Bounds)
    → ((f : Fields) → Holds region f → begins_with e f ≡ false) → (f : Fields) → Holds region f
    → matches_packet (e ∷ es) f ≡ false
unmatched e es region none f here = ap (λ b. b && matches_packet es f) (none f here)

-- the first entry and the others, as a slice gives them
rest_is : (e : MatchEntry) (es : List MatchEntry) → take (length (e ∷ es) - 1) (drop 1 (e ∷ es)) ≡ es
rest_is e es = take_all (length (e ∷ es) - 1) es (omega arith)

pub first_some : (d : MatchEntry) (es : List MatchEntry) (region left : Bounds) (o : Option Bounds) → 1 ≤ length es
    → Cut left region (λ f. begins_with (get_or es 0 d) f ≡ true)
    → IfSome o (λ r. Cut r left (λ f. matches_packet (take (length es - 1) (drop 1 es)) f ≡ true))
    → IfSome o (λ r. Cut r region (λ f. matches_packet es f ≡ true))
first_some d [] region left o some first second = absurd (omega arith)
first_some d (e ∷ es) region left o some first second =
    matched_some e es region left o first (subst (λ xs. IfSome o (λ r. Cut r left (λ f. matches_packet xs f ≡ true)))
    (rest_is e es) second)

pub first_none : (d : MatchEntry) (es : List MatchEntry) (region left : Bounds) (o : Option Bounds) → 1 ≤ length es
    → Cut left region (λ f. begins_with (get_or es 0 d) f ≡ true)
    → IfNone o ((f : Fields) → Holds left f → matches_packet (take (length es - 1) (drop 1 es)) f ≡ false)
    → IfNone o ((f : Fields) → Holds region f → matches_packet es f ≡ false)
first_none d [] region left o some first second = absurd (omega arith)
first_none d (e ∷ es) region left o some first second =
    matched_none e es region left o first (subst
    (λ xs. IfNone o ((f : Fields) → Holds left f → matches_packet xs f ≡ false)) (rest_is e es) second)

-- ---- two right overlaps are the same

same_answer : (region : Bounds) (test : Fields → Bool) (a b : Overlap) → Ordered region → IsOverlap region test a
    → IsOverlap region test b → a ≡ b
same_answer region test Whole Whole r h k = refl
same_answer region test Part Part r h k = refl
same_answer region test Nothing Nothing r h k = refl
same_answer region test Part Whole r h k = absurd (h.part refl (inl (k.whole refl)))
same_answer region test Part Nothing r h k = absurd (h.part refl (inr (k.nothing refl)))
same_answer region test Whole Part r h k = absurd (k.part refl (inl (h.whole refl)))
same_answer region test Nothing Part r h k = absurd (k.part refl (inr (h.nothing refl)))
same_answer region test Whole Nothing r h k =
    let low = in_holds region region.low (is_low region r) in
    absurd (true≢false (sym (h.whole refl region.low low) ∙ k.nothing refl region.low low))
same_answer region test Nothing Whole r h k =
    let low = in_holds region region.low (is_low region r) in
    absurd (true≢false (sym (k.whole refl region.low low) ∙ h.nothing refl region.low low))

pub match_none : (region : Bounds) (es : List MatchEntry) → IsRegion region
    → ((f : Fields) → Holds region f → matches_packet es f ≡ false) → Nothing ≡ region_overlap region (match_fields es)
match_none region es r none =
    same_answer region (matches_packet es) Nothing (region_overlap region (match_fields es)) (ordered region r)
    (record {
      whole = λ is. absurd (cc);
      nothing = λ is. λ f. λ h. none f (holds_is region f h);
      part = λ is. absurd (cc);
    }) (match_overlap_is region es r)

pub match_some : (region left : Bounds) (es : List MatchEntry) → IsRegion region
    → Cut left region (λ f. matches_packet es f ≡ true) → region_overlap region left
    ≡ region_overlap region (match_fields es)
match_some region left es r cut =
    same_answer region (matches_packet es) (region_overlap region left) (region_overlap region (match_fields es))
    (ordered region r) (same_overlap region (holds left) (matches_packet es) (region_overlap region left)
    (λ f. λ here. same_test (holds left f) (matches_packet es f) (λ h. ((cut f).0 (holds_is left f h)).1)
    (λ h. holds_if left f ((cut f).1 (holds_is region f here, h)))) (region_overlap_is region left r))
    (match_overlap_is region es r)
