-- Whether any fields are within bounds.
use Rattle.std.proofs.Common.{◌≡◌, ℕ, ◌<◌, ◌≤◌, true, false, List, Option, Some, None, IsSome, IfSome, ◌↔◌, slice_index, refl, sym, ap, ap₂, ◌∙◌, subst, arith}
use Rattle.fx_elements.specs.Axes.{axis_count, tops}
use Rattle.fx_boxes.specs.Boxes.{Bounds, Holds, IsFields}
use Rattle.fx_boxes.proofs.Holding.{holds_if, holds_is}
use Rattle.fx_selectors.specs.Selection.{has_room, region_within}

abbrev up_to_tops : Bounds → Bounds
up_to_tops b = record { low = b.low; high = tops }

room : (b : Bounds) → has_room b ≡ true → Holds (up_to_tops b) b.high
room b h = holds_is (up_to_tops b) b.high h

pub low_fields : (b : Bounds) → has_room b ≡ true → IsFields b.low
low_fields b h k lt = let here = room b h k lt in omega (arith, here.0, here.1)

pub high_fields : (b : Bounds) → has_room b ≡ true → IsFields b.high
high_fields b h k lt = (room b h k lt).1

pub none_within : (b : Bounds) → (has_room b ≡ true → ⊥) → None ≡ region_within b
none_within b h = elim (has_room b) as (λ t. has_room b ≡ t → None ≡ region_within b) [
  | true ↦ λ e. absurd (h e)
  | false ↦ λ e. rw e refl
] refl

abbrev Ordered : Bounds → Type 0
Ordered b = (k : ℕ) → k < axis_count → slice_index b.low k ≤ slice_index b.high k

ordered : (b : Bounds) → has_room b ≡ true → Ordered b
ordered b h k lt = (room b h k lt).0

room_if : (b : Bounds) → IsFields b.high → Ordered b → has_room b ≡ true
room_if b fields h = holds_if (up_to_tops b) b.high (λ k lt. (h k lt, fields k lt))

-- the region between the low and the high fields, if there is one
pub between_is : (b : Bounds) (o : Option Bounds) → IsFields b.high → IsSome o ↔ Ordered b
    → IfSome o (λ r. (r.low ≡ b.low) × (r.high ≡ b.high)) → o ≡ region_within b
between_is b None fields exact value = none_within b (λ h. let no : false ≡ true = exact.1 (ordered b h) in absurd (cc))
between_is b (Some r) fields exact value =
    let there : has_room b ≡ true = room_if b fields (exact.0 cc) in
    let same : r ≡ b = ap₂ (λ (low : List ℕ) (high : List ℕ). record { low = low; high = high }) value.0 value.1 in
    rw there (ap Some same)

-- the same, where the region is between other names of the bounds
pub between_with : (b : Bounds) (o : Option Bounds) (low high : List ℕ) → low ≡ b.low → high ≡ b.high → IsFields b.high
    → IsSome o ↔ ((k : ℕ) → k < axis_count → slice_index low k ≤ slice_index high k)
    → IfSome o (λ r. (r.low ≡ low) × (r.high ≡ high)) → o ≡ region_within b
between_with b o low high el eh fields exact value =
    let same : ◌≡◌ {A = Bounds} (record { low = low; high = high }) b =
    ap₂ (λ (l : List ℕ) (h : List ℕ). record { low = l; high = h }) el eh in
    let own : IsFields high = subst (λ (h : List ℕ). IsFields h) (sym eh) fields in
    between_is (record { low = low; high = high }) o own exact value ∙ ap region_within same
