-- What holds of each axis: the only proofs that go through them one by one.
use Rattle.std.proofs.Common.{◌≡◌, ℕ, zero, suc, ◌+◌, ◌-◌, ◌^◌, ◌<◌, ◌≤◌, Bool, true, false, List, [], ◌∷◌, map, length, get_or, refl, sym, ap, ◌∙◌, arith, eqb-true, eq-eqb, subst, inl, inr}
use Rattle.std.specs.List.{list_all, list_any}
use Rattle.std.proofs.Math.Nat.{pow-le-pow_right}
use Rattle.std.proofs.lemmas.Bool.{and_from, and_parts, or_from, or_parts}
use Rattle.std.proofs.lemmas.List.Folds.{list_any_at}
use Rattle.std.proofs.Math.ListN.{set}
use Rattle.std.proofs.lemmas.Bool.{cases_lt}
use Rattle.std.proofs.lemmas.Grind.{get_or-set_at}
use Rattle.std.proofs.lemmas.List.{get_or-map, get_or-set_other, ext_get_or}
use Rattle.std.proofs.lemmas.Nat.{pow_pos}
use Rattle.fx_elements.specs.declared.axis.Axis.{Axis}
use Rattle.fx_elements.specs.declared.axis.Axis.TheVariants.{Source, Destination, Protocol, SourcePort, DestinationPort, ClassOfService, Version, Source6, Destination6}
use Rattle.fx_elements.specs.Axes.{axis_count, axis_index, axis_width, same_axis, axes, tops, is_address, is_wide, field}

pub index_below : (axis : Axis) → axis_index axis < axis_count
index_below Source = omega arith
index_below Destination = omega arith
index_below Protocol = omega arith
index_below SourcePort = omega arith
index_below DestinationPort = omega arith
index_below ClassOfService = omega arith
index_below Version = omega arith
index_below Source6 = omega arith
index_below Destination6 = omega arith

-- the axis with this place
pub placed : (k : ℕ) → k < axis_count → (axis : Axis) × (axis_index axis ≡ k)
placed zero lt = (Source, refl)
placed (suc zero) lt = (Destination, refl)
placed (suc (suc zero)) lt = (Protocol, refl)
placed (suc (suc (suc zero))) lt = (SourcePort, refl)
placed (suc (suc (suc (suc zero)))) lt = (DestinationPort, refl)
placed (suc (suc (suc (suc (suc zero))))) lt = (ClassOfService, refl)
placed (suc (suc (suc (suc (suc (suc zero)))))) lt = (Version, refl)
placed (suc (suc (suc (suc (suc (suc (suc zero))))))) lt = (Source6, refl)
placed (suc (suc (suc (suc (suc (suc (suc (suc zero)))))))) lt = (Destination6, refl)
placed (suc (suc (suc (suc (suc (suc (suc (suc (suc k))))))))) lt = absurd (omega arith)

-- a list made along the axes has its value at each axis's place
pub value_at : (g : Axis → ℕ) (axis : Axis) → get_or (map g axes) (axis_index axis) 0 ≡ g axis
value_at g Source = refl
value_at g Destination = refl
value_at g Protocol = refl
value_at g SourcePort = refl
value_at g DestinationPort = refl
value_at g ClassOfService = refl
value_at g Version = refl
value_at g Source6 = refl
value_at g Destination6 = refl

-- the axis at each place of the order is the axis
pub axis_at : (axis : Axis) → get_or axes (axis_index axis) Source ≡ axis
axis_at Source = refl
axis_at Destination = refl
axis_at Protocol = refl
axis_at SourcePort = refl
axis_at DestinationPort = refl
axis_at ClassOfService = refl
axis_at Version = refl
axis_at Source6 = refl
axis_at Destination6 = refl

pub width_most : (axis : Axis) → axis_width axis ≤ 128
width_most Source = omega arith
width_most Destination = omega arith
width_most Protocol = omega arith
width_most SourcePort = omega arith
width_most DestinationPort = omega arith
width_most ClassOfService = omega arith
width_most Version = omega arith
width_most Source6 = omega arith
width_most Destination6 = omega arith

-- addresses have 32 bits, those of IPv6 128
pub address_width : (axis : Axis) → is_wide axis ≡ false → is_address axis ≡ true → axis_width axis ≡ 32
address_width Source w h = refl
address_width Destination w h = refl
address_width Protocol w h = absurd (cc)
address_width SourcePort w h = absurd (cc)
address_width DestinationPort w h = absurd (cc)
address_width ClassOfService w h = absurd (cc)
address_width Version w h = absurd (cc)
address_width Source6 w h = absurd (cc)
address_width Destination6 w h = absurd (cc)

pub wide_width : (axis : Axis) → is_wide axis ≡ true → axis_width axis ≡ 128
wide_width Source w = absurd (cc)
wide_width Destination w = absurd (cc)
wide_width Protocol w = absurd (cc)
wide_width SourcePort w = absurd (cc)
wide_width DestinationPort w = absurd (cc)
wide_width ClassOfService w = absurd (cc)
wide_width Version w = absurd (cc)
wide_width Source6 w = refl
wide_width Destination6 w = refl

-- ---- what follows for all axes

abbrev axis_from : ℕ → Axis
axis_from k = get_or axes k Source

pub index_at : (k : ℕ) → k < axis_count → axis_index (get_or axes k Source) ≡ k
index_at k lt = let at = placed k lt in
    ap (λ n. axis_index (get_or axes n Source)) (sym at.1) ∙ ap axis_index (axis_at at.0) ∙ at.1

pub axis_is : (a b : Axis) → same_axis a b ≡ true → a ≡ b
axis_is a b h = sym (axis_at a) ∙ ap axis_from (eqb-true (axis_index a) (axis_index b) h) ∙ axis_at b

pub same_axis_refl : (a : Axis) → same_axis a a ≡ true
same_axis_refl a = eq-eqb (axis_index a) (axis_index a) refl

pub top_is : (axis : Axis) → get_or tops (axis_index axis) 0 ≡ 2 ^ axis_width axis - 1
top_is axis = value_at (λ axis. 2 ^ axis_width axis - 1) axis

pub top_below : (axis : Axis) → get_or tops (axis_index axis) 0 < 2 ^ axis_width axis
top_below axis =
    let is = top_is axis in
    let pos : 0 < 2 ^ axis_width axis = pow_pos (axis_width axis) in
    omega (arith, is, pos)

pub top_small : (axis : Axis) → get_or tops (axis_index axis) 0 < 2 ^ 128
top_small axis =
    let here = top_below axis in
    let most : 2 ^ axis_width axis ≤ 2 ^ 128 = pow-le-pow_right {n = 2} (omega arith) (width_most axis) in
    omega (arith, here, most)

-- ---- tests along the axes

all_at : {A : Type 0} (p : A → Bool) (xs : List A) (k : ℕ) (d : A) → list_all p xs ≡ true → k < length xs
    → p (get_or xs k d) ≡ true
all_at p [] k d h lt = absurd (omega arith)
all_at p (x ∷ xs) zero d h lt = (and_parts (p x) (list_all p xs) h).0
all_at p (x ∷ xs) (suc k) d h lt = all_at p xs k d (and_parts (p x) (list_all p xs) h).1 (omega arith)

all_if : {A : Type 0} (p : A → Bool) (xs : List A) → ((x : A) → p x ≡ true) → list_all p xs ≡ true
all_if p [] h = refl
all_if p (x ∷ xs) h = and_from _ _ (h x) (all_if p xs h)

none_at : {A : Type 0} (p : A → Bool) (xs : List A) (k : ℕ) (d : A) → list_any p xs ≡ false → k < length xs
    → p (get_or xs k d) ≡ false
none_at p [] k d h lt = absurd (omega arith)
none_at p (x ∷ xs) zero d h lt = (or_parts (p x) (list_any p xs) h).0
none_at p (x ∷ xs) (suc k) d h lt = none_at p xs k d (or_parts (p x) (list_any p xs) h).1 (omega arith)

pub on_axis : (p : Axis → Bool) → list_all p axes ≡ true → (axis : Axis) → p axis ≡ true
on_axis p h axis = ap p (sym (axis_at axis)) ∙ all_at p axes (axis_index axis) Source h (index_below axis)

pub on_axes : (p : Axis → Bool) → ((axis : Axis) → p axis ≡ true) → list_all p axes ≡ true
on_axes p h = all_if p axes h

pub on_none : (p : Axis → Bool) → list_any p axes ≡ false → (axis : Axis) → p axis ≡ false
on_none p h axis = ap p (sym (axis_at axis)) ∙ none_at p axes (axis_index axis) Source h (index_below axis)

pub on_some : (p : Axis → Bool) (axis : Axis) → p axis ≡ true → list_any p axes ≡ true
on_some p axis h = list_any_at p axes (axis_index axis) Source (index_below axis) (ap p (axis_at axis) ∙ h)

pub on_no_axis : (p : Axis → Bool) → ((axis : Axis) → p axis ≡ false) → list_any p axes ≡ false
on_no_axis p h = none axes where
  none : (xs : List Axis) → list_any p xs ≡ false
  none [] = refl
  none (x ∷ xs) = or_from _ _ (h x) (none xs)

-- ---- values made one axis after another

-- what holds of the items so far, and of a new one at the next place
pub set_more : {A : Type 0} (P : ℕ → A → Type 0) (xs : List A) (i place : ℕ) (x d : A) → i < length xs → place ≡ i
    → P i x → ((k : ℕ) → k < i → P k (get_or xs k d)) → (k : ℕ) → k < i + 1 → P k (get_or (set xs place x) k d)
set_more P xs i place x d len is here before k lt = elim (cases_lt k i) [
  | inl less ↦ subst (P k) (sym (get_or-set_other xs place k x d (λ e. omega (arith, less, is, e)))) (before k less)
  | inr more ↦
      let same : k ≡ i = omega (arith, lt, more) in
      subst (λ n. P n (get_or (set xs place x) n d)) (sym same)
      (subst (P i) (sym (get_or-set_at xs place i x d (sym is) (omega (arith, len, is)))) here)
]

-- values at all places are those along the axes
pub along : (g : Axis → ℕ) (xs : List ℕ) → length xs ≡ axis_count
    → ((k : ℕ) → k < axis_count → get_or xs k 0 ≡ g (get_or axes k Source)) → xs ≡ map g axes
along g xs len h =
    ext_get_or 0 xs (map g axes) len (λ k. λ lt. let below : k < axis_count = omega (arith, len, lt) in
    h k below ∙ sym (get_or-map g axes k Source 0 below))

-- a list of as many values as axes is made of its values on the axes
pub fields_are : (fields : List ℕ) → length fields ≡ axis_count → map (λ axis. field fields axis) axes ≡ fields
fields_are fields len =
    sym (along (λ axis. field fields axis) fields len (λ k lt. ap (λ n. get_or fields n 0) (sym (index_at k lt))))

-- values made along the axes, each on its axis
pub each_on : (g : Axis → ℕ) → ((axis : Axis) → g axis ≤ get_or tops (axis_index axis) 0) → (k : ℕ) → k < axis_count
    → get_or (map g axes) k 0 ≤ get_or tops k 0
each_on g h k lt =
    let at = placed k lt in
    let here : get_or (map g axes) (axis_index at.0) 0 ≤ get_or tops (axis_index at.0) 0 =
    omega (arith, value_at g at.0, h at.0) in
    subst (λ (n : ℕ). get_or (map g axes) n 0 ≤ get_or tops n 0) at.1 here
