-- What is in the two parts of a region that is split.
use Rattle.std.proofs.Common.{◌≡◌, ◌≢◌, ℕ, ◌≤◌, ◌<◌, ◌-◌, ◌↔◌, ◌⊎◌, inl, inr, List, length, get_or, refl, sym, subst, arith}
use Rattle.std.proofs.Math.ListN.{set}
use Rattle.std.proofs.lemmas.Bool.Decides.{eqb_tells}
use Rattle.std.proofs.lemmas.Grind.{get_or-set_at}
use Rattle.std.proofs.lemmas.List.{get_or-set_other}
use Rattle.fx_elements.specs.Axes.{axis_count}
use Rattle.fx_boxes.specs.Boxes.{Bounds, Holds, IsStrictlyInside, below_part, above_part}

-- where the value at j becomes x, the value at k is x if k is j, and else what it was
set_tells : (xs : List ℕ) (j x k : ℕ) → j < length xs → ((k ≡ j) × (get_or (set xs j x) k 0 ≡ x))
    ⊎ ((k ≢ j) × (get_or (set xs j x) k 0 ≡ get_or xs k 0))
set_tells xs j x k len = elim (eqb_tells k j) [
  | inl same ↦ inl (same.1, get_or-set_at xs j k x 0 same.1 len)
  | inr other ↦ inr (other.1, get_or-set_other xs j k x 0 other.1)
]

pub below_is : (b : Bounds) (j at : ℕ) → j < axis_count → j < length b.high → IsStrictlyInside b j at → (f : List ℕ)
    → Holds (below_part b j at) f ↔ (Holds b f × (get_or f j 0 < at))
below_is b j at lt len inside f = (
  λ h.
      let here : get_or f j 0 < at = omega (arith, (h j lt).1, get_or-set_at b.high j j (at - 1) 0 refl len, inside.0)
      in (
        λ k less. (
          (h k less).0,
          elim (set_tells b.high j (at - 1) k len) [
            | inl s ↦ subst (λ n. get_or f n 0 ≤ get_or b.high n 0) (sym s.0) (omega (arith, here, inside.1))
            | inr o ↦ omega (arith, (h k less).1, o.1)
          ],
        ),
        here,
      ),
  λ p k less. (
    (p.0 k less).0,
    elim (set_tells b.high j (at - 1) k len) [
      | inl s ↦ let here : get_or f k 0 < at = subst (λ n. get_or f n 0 < at) (sym s.0) p.1 in omega (arith, s.1, here)
      | inr o ↦ omega (arith, (p.0 k less).1, o.1)
    ],
  ),
)

pub above_is : (b : Bounds) (j at : ℕ) → j < axis_count → j < length b.low → IsStrictlyInside b j at → (f : List ℕ)
    → Holds (above_part b j at) f ↔ (Holds b f × (at ≤ get_or f j 0))
above_is b j at lt len inside f = (
  λ h.
      let here : at ≤ get_or f j 0 = omega (arith, (h j lt).0, get_or-set_at b.low j j at 0 refl len) in (
        λ k less. (
          elim (set_tells b.low j at k len) [
            | inl s ↦ subst (λ n. get_or b.low n 0 ≤ get_or f n 0) (sym s.0) (omega (arith, here, inside.0))
            | inr o ↦ omega (arith, (h k less).0, o.1)
          ],
          (h k less).1,
        ),
        here,
      ),
  λ p k less. (
    elim (set_tells b.low j at k len) [
      | inl s ↦ let here : at ≤ get_or f k 0 = subst (λ n. at ≤ get_or f n 0) (sym s.0) p.1 in omega (arith, s.1, here)
      | inr o ↦ omega (arith, (p.0 k less).0, o.1)
    ],
    (p.0 k less).1,
  ),
)
