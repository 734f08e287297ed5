-- That the fields are in a region, as a fact and as a test.
use Rattle.std.proofs.Common.{◌≡◌, ℕ, ◌≤◌, Bool, true, false, nat_le, get_or, refl, ap, ◌∙◌, leb-true, le-leb, IsTrue, ◌↔◌, sym}
use Rattle.std.proofs.lemmas.Bool.{and_from, and_parts}
use Rattle.fx_elements.specs.Axes.{Fields, axis_index}
use Rattle.fx_elements.proofs.EveryAxis.{placed, on_axis, on_axes, index_below}
use Rattle.fx_boxes.specs.Boxes.{Bounds, Holds, holds, is_between}

between_is : (b : Bounds) (f : Fields) (k : ℕ) → is_between b f k ≡ true → (get_or b.low k 0 ≤ get_or f k 0)
    × (get_or f k 0 ≤ get_or b.high k 0)
between_is b f k h =
    let parts = and_parts (nat_le (get_or b.low k 0) (get_or f k 0)) (nat_le (get_or f k 0) (get_or b.high k 0)) h in
    (leb-true _ _ parts.0, leb-true _ _ parts.1)

is_between_if : (b : Bounds) (f : Fields) (k : ℕ) → (get_or b.low k 0 ≤ get_or f k 0)
    × (get_or f k 0 ≤ get_or b.high k 0) → is_between b f k ≡ true
is_between_if b f k h = and_from _ _ (le-leb _ _ h.0) (le-leb _ _ h.1)

-- the test says that the fields are in the region
pub holds_is : (b : Bounds) (f : Fields) → holds b f ≡ true → Holds b f
holds_is b f h k lt =
    let at = placed k lt in
    between_is b f k (ap (is_between b f) (sym at.1) ∙ on_axis (λ axis. is_between b f (axis_index axis)) h at.0)

-- fields in the region pass the test
pub holds_if : (b : Bounds) (f : Fields) → Holds b f → holds b f ≡ true
holds_if b f h = on_axes (λ axis. is_between b f (axis_index axis))
    (λ axis. is_between_if b f (axis_index axis) (h (axis_index axis) (index_below axis)))

pub fields_read : (r : Bool) (b : Bounds) (f : Fields) → IsTrue r ↔ Holds b f → r ≡ holds b f
fields_read true b f h = sym (holds_if b f (h.0 refl))
fields_read false b f h = cases (holds b f) refl
  where
    cases : (t : Bool) → holds b f ≡ t → false ≡ holds b f
    cases true e = let no : false ≡ true = h.1 (holds_is b f e) in absurd (cc)
    cases false e = sym e
