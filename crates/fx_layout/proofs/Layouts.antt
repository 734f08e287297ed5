-- What a layout keeps, and how a part more leaves it so.
use Rattle.std.proofs.Common.{◌≡◌, ◌≢◌, ℕ, suc, ◌+◌, ◌-◌, ◌*◌, ◌/◌, ◌^◌, ◌<◌, ◌≤◌, Bool, true, false, cond, ◌||◌, not, ◌==◌, nat_le, nat_lt, List, [], ◌∷◌, length, map, take, Option, Some, None, refl, sym, ap, ◌∙◌, subst, arith, leb-true, le-leb, ltb-true, eqb-true, inl, inr, ◌⊎◌, pow-add}
use Rattle.std.specs.List.{list_all, position_or_len, insert}
use Rattle.std.proofs.lemmas.Nat.{pow_pos}
use Rattle.std.proofs.lemmas.List.{length-map, length-take-le, take_all}
use Rattle.std.proofs.Math.Nat.{div-lt_iff_lt-mul, pow-le-pow_right}
use Rattle.fx_elements.specs.declared.axis.Axis.{Axis}
use Rattle.fx_elements.specs.Axes.{Fields, field, axis_count, axis_index, axis_width, same_axis}
use Rattle.fx_elements.proofs.EveryAxis.{index_below, top_below}
use Rattle.fx_boxes.specs.Boxes.{IsFields}
use Rattle.fx_layout.specs.declared.layout.Part.{Part}
use Rattle.fx_layout.specs.Keys.{Layout, part_at, has_bits, reads, can_stand, with_part, Fits, AxesAscend, IsLayout, HasBits, leading_bits, cut_in}
use Rattle.fx_layout.proofs.Projections.{and_true, and_both}

-- ---- bits

either : (a b : Bool) → (a || b) ≡ true → (a ≡ true) ⊎ (b ≡ true)
either true b h = inl refl
either false b h = inr h

pub stands_within : (part : Part) → can_stand part ≡ true → (1 ≤ part.bits) × (part.bits ≤ axis_width part.axis)
stands_within part h =
    let two = and_true (nat_le 1 part.bits) _ h in (
      leb-true 1 part.bits two.0,
      elim (either _ _ two.1)
          [ inl all ↦ whole all | inr some ↦ leb-true _ _ (and_true _ _ some).1 ],
    )
  where
    whole : (part.bits == axis_width part.axis) ≡ true → part.bits ≤ axis_width part.axis
    whole e = let same : part.bits ≡ axis_width part.axis = eqb-true _ _ e in omega (arith, same)

pub fits_if : (layout : Layout) → list_all can_stand layout ≡ true → Fits layout
fits_if [] h = tt
fits_if (part ∷ parts) h =
    let two = and_true (can_stand part) (list_all can_stand parts) h in
    ((stands_within part two.0).1, fits_if parts two.1)

-- ---- order

room_from : (from : ℕ) (layout : Layout) → from ≤ axis_count → AxesAscend from layout → from + length layout
    ≤ axis_count
room_from from [] le h = omega arith
room_from from (part ∷ parts) le h =
    let below = index_below part.axis in
    let rest = room_from (suc (axis_index part.axis)) parts (omega arith) h.1 in
    let here : from ≤ axis_index part.axis = h.0 in
    omega arith

-- there are no more parts than axes
pub room : (layout : Layout) → AxesAscend 0 layout → length layout ≤ axis_count
room layout h = let all = room_from 0 layout (omega arith) h in omega arith

lower : (from less : ℕ) (layout : Layout) → less ≤ from → AxesAscend from layout → AxesAscend less layout
lower from less [] le h = tt
lower from less (part ∷ parts) le h = let here : from ≤ axis_index part.axis = h.0 in (omega arith, h.1)

-- ---- a part more

pub with_part_is : (layout : Layout) (new : Part) → with_part layout new
    ≡ insert layout (position_or_len (λ part. nat_lt (axis_index new.axis) (axis_index part.axis)) layout) new
with_part_is [] new = refl
with_part_is (part ∷ parts) new =
    let rest = with_part_is parts new in
    let later : Part → Bool = λ p. nat_lt (axis_index new.axis) (axis_index p.axis) in
    let one : 1 + position_or_len later parts ≡ suc (position_or_len later parts) = omega arith in
    elim (nat_lt (axis_index new.axis) (axis_index part.axis))
    as (λ t. cond t (new ∷ part ∷ parts) (part ∷ with_part parts new)
    ≡ insert (part ∷ parts) (cond (not t) (1 + position_or_len later parts) 0) new) [
      | true ↦ refl
      | false ↦ ap (λ xs. part ∷ xs) rest ∙ ap (λ n. insert (part ∷ parts) n new) (sym one)
    ]

pub with_part_stands : (layout : Layout) (new : Part) → list_all can_stand layout ≡ true → can_stand new ≡ true
    → list_all can_stand (with_part layout new) ≡ true
with_part_stands [] new h s = and_both _ _ s refl
with_part_stands (part ∷ parts) new h s =
    let two = and_true (can_stand part) (list_all can_stand parts) h in
    let rest = with_part_stands parts new two.1 s in
    elim (nat_lt (axis_index new.axis) (axis_index part.axis))
    as (λ t. list_all can_stand (cond t (new ∷ part ∷ parts) (part ∷ with_part parts new)) ≡ true) [
      | true ↦ and_both _ _ s h
      | false ↦ and_both _ _ two.0 rest
    ]

absent : (part : Part) (parts : Layout) (axis : Axis) → part_at (part ∷ parts) axis ≡ None
    → (same_axis part.axis axis ≡ false) × (part_at parts axis ≡ None)
absent part parts axis h =
    elim (same_axis part.axis axis) as (λ t. cond t (Some part) (part_at parts axis) ≡ None → (t ≡ false)
    × (part_at parts axis ≡ None)) [
      | true ↦ λ k. absurd (cc)
      | false ↦ λ k. (refl, k)
    ] h

not_same : (a b : ℕ) → (a == b) ≡ false → a ≢ b
not_same a b h e = let yes : (a == b) ≡ true = subst (λ n. (a == n) ≡ true) e (same a) in absurd (cc)
  where
    same : (n : ℕ) → (n == n) ≡ true
    same n = grind arith

pub with_part_ascends : (from : ℕ) (layout : Layout) (new : Part) → from ≤ axis_index new.axis → AxesAscend from layout
    → part_at layout new.axis ≡ None → AxesAscend from (with_part layout new)
with_part_ascends from [] new le h none = (le, tt)
with_part_ascends from (part ∷ parts) new le h none =
    let apart = absent part parts new.axis none in
    let differ : axis_index part.axis ≢ axis_index new.axis = not_same _ _ apart.0 in
    elim (nat_lt (axis_index new.axis) (axis_index part.axis))
    as (λ t. nat_lt (axis_index new.axis) (axis_index part.axis) ≡ t
    → AxesAscend from (cond t (new ∷ part ∷ parts) (part ∷ with_part parts new))) [
      | true ↦ λ e. let before : axis_index new.axis < axis_index part.axis = ltb-true _ _ e in (le, (omega arith, h.1))
      | false ↦ λ e.
          let behind : axis_index part.axis ≤ axis_index new.axis = grind (arith, e) in
          (h.0, with_part_ascends (suc (axis_index part.axis)) parts new (omega arith) h.1 apart.1)
    ] refl

-- ---- values

leading_below : (width bits value : ℕ) → bits ≤ width → value < 2 ^ width → leading_bits width bits value < 2 ^ bits
leading_below width bits value le lt =
    let whole : 2 ^ width ≡ 2 ^ bits * 2 ^ (width - bits) =
    ap (λ n. 2 ^ n) (let e : width ≡ bits + (width - bits) = omega arith in e) ∙ pow-add 2 bits (width - bits) in
    (div-lt_iff_lt-mul {k = 2 ^ (width - bits)} {x = value} {y = 2 ^ bits} (pow_pos (width - bits))).1
    (subst (λ n. value < n) whole lt)

pub field_below : (fields : Fields) (axis : Axis) → IsFields fields → field fields axis < 2 ^ axis_width axis
field_below fields axis h =
    let top = top_below axis in
    let here = h (axis_index axis) (index_below axis) in
    omega arith

map_has_bits : (g : Part → ℕ) (layout : Layout) → ((part : Part) → can_stand part ≡ true → g part < 2 ^ part.bits)
    → list_all can_stand layout ≡ true → HasBits layout (map g layout)
map_has_bits g [] h s = tt
map_has_bits g (part ∷ parts) h s =
    let two = and_true (can_stand part) (list_all can_stand parts) s in
    (h part two.0, map_has_bits g parts h two.1)

pub key_has_bits : (layout : Layout) (fields : Fields) → list_all can_stand layout ≡ true → IsFields fields
    → HasBits layout (map (λ part. leading_bits (axis_width part.axis) part.bits (field fields part.axis)) layout)
key_has_bits layout fields s f =
    map_has_bits (λ part. leading_bits (axis_width part.axis) part.bits (field fields part.axis)) layout
    (λ part k. leading_below (axis_width part.axis) part.bits (field fields part.axis) (stands_within part k).1
    (field_below fields part.axis f)) s

cut_below : (layout : Layout) (values : List ℕ) (axis : Axis) (bits : ℕ) → HasBits layout values
    → cut_in layout values axis bits < 2 ^ bits
cut_below [] values axis bits h = pow_pos bits
cut_below (part ∷ parts) [] axis bits h = pow_pos bits
cut_below (part ∷ parts) (value ∷ values) axis bits h =
    let rest = cut_below parts values axis bits h.1 in
    elim (same_axis part.axis axis) as (λ t. cond t (leading_bits part.bits bits value) (cut_in parts values axis bits)
    < 2 ^ bits) [
      | true ↦ cut_here (cases_le bits part.bits)
      | false ↦ rest
    ]
  where
    cases_le : (a b : ℕ) → (a ≤ b) ⊎ (b < a)
    cases_le a b = grind arith

    cut_here : (bits ≤ part.bits) ⊎ (part.bits < bits) → leading_bits part.bits bits value < 2 ^ bits
    cut_here (inl le) = leading_below part.bits bits value le h.0
    cut_here (inr lt) =
        let none : part.bits - bits ≡ 0 = omega arith in
        let grown : 2 ^ part.bits ≤ 2 ^ bits = pow-le-pow_right {n = 2} (omega arith)
        (let le : part.bits ≤ bits = omega arith in le) in
        let same : leading_bits part.bits bits value ≡ value = ap (λ n. value / 2 ^ n) none ∙ grind arith in
        let here : value < 2 ^ part.bits = h.0 in
        omega (arith, same)

pub cut_has_bits : (from : Layout) (values : List ℕ) (layout : Layout) → HasBits from values → list_all can_stand layout
    ≡ true → HasBits layout (map (λ part. cut_in from values part.axis part.bits) layout)
cut_has_bits from values layout h s = map_has_bits (λ part. cut_in from values part.axis part.bits) layout
    (λ part k. cut_below from values part.axis part.bits h) s

pub so_many : (g : Part → ℕ) (parts : Layout) (values : List ℕ) (i : ℕ) → values ≡ map g (take i parts) → i
    < length parts → AxesAscend 0 parts → length values < axis_count
so_many g parts values i e lt h =
    let most = room parts h in
    let many : length values ≡ i = ap length e ∙ length-map (take i parts) g ∙ length-take-le i parts (omega arith) in
    omega arith

pub all_of : (g : Part → ℕ) (parts : Layout) (values : List ℕ) (i : ℕ) → values ≡ map g (take i parts) → length parts
    ≤ i → values ≡ map g parts
all_of g parts values i e le = e ∙ ap (map g) (take_all i parts le)

-- ---- a part more, in the code's terms

one_more : (layout : Layout) (new : Part) → length (with_part layout new) ≡ suc (length layout)
one_more [] new = refl
one_more (part ∷ parts) new =
    let rest = one_more parts new in
    elim (nat_lt (axis_index new.axis) (axis_index part.axis))
    as (λ t. length (cond t (new ∷ part ∷ parts) (part ∷ with_part parts new)) ≡ suc (suc (length parts))) [
      | true ↦ refl
      | false ↦ ap (λ n. suc n) rest
    ]

nothing_at : (o : Option Part) → has_bits o 0 ≡ false → o ≡ None
nothing_at None h = refl
nothing_at (Some part) h = let yes : nat_le 0 part.bits ≡ true = le-leb 0 part.bits (omega arith) in absurd (cc)

pub not_there : (layout : Layout) (axis : Axis) → reads layout axis 0 ≡ false → part_at layout axis ≡ None
not_there layout axis h = nothing_at (part_at layout axis) h

pub room_for : (layout : Layout) (new : Part) → AxesAscend 0 layout → part_at layout new.axis ≡ None → length layout
    < axis_count
room_for layout new h none =
    let more = room (with_part layout new) (with_part_ascends 0 layout new (omega arith) h none) in
    let one = one_more layout new in
    omega arith

pub stays_layout : (layout : Layout) (new : Part) → IsLayout layout → can_stand new ≡ true → part_at layout new.axis
    ≡ None → IsLayout (with_part layout new)
stays_layout layout new h s none = record {
  stands = with_part_stands layout new h.stands s;
  ascends = with_part_ascends 0 layout new (omega arith) h.ascends none;
}
