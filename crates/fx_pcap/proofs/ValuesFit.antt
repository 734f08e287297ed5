-- The values of a packet of IPv6 stand within their axes.
use Rattle.std.proofs.Common.{ℕ, zero, suc, ◌<◌, ◌≤◌, ◌^◌, ◌∷◌, [], arith}
use Rattle.std.specs.Prelude.{slice_index}
use Rattle.fx_elements.specs.Axes.{axis_count, tops}
use Rattle.fx_boxes.specs.Boxes.{IsFields}

pub values_fit : (protocol source destination class a b : ℕ) → protocol < 2 ^ 8 → source < 2 ^ 16 → destination < 2 ^ 16
    → class < 2 ^ 8 → a < 2 ^ 128 → b < 2 ^ 128
    → IsFields (0 ∷ 0 ∷ protocol ∷ source ∷ destination ∷ class ∷ 6 ∷ a ∷ b ∷ [])
values_fit protocol source destination class a b of_protocol of_source of_destination of_class of_a of_b = fits
  where
    fits : (k : ℕ) → k < axis_count → slice_index (0 ∷ 0 ∷ protocol ∷ source ∷ destination ∷ class ∷ 6 ∷ a ∷ b ∷ []) k
        ≤ slice_index tops k
    fits zero lt = omega arith
    fits (suc zero) lt = omega arith
    fits (suc (suc zero)) lt = omega arith
    fits (suc (suc (suc zero))) lt = omega arith
    fits (suc (suc (suc (suc zero)))) lt = omega arith
    fits (suc (suc (suc (suc (suc zero))))) lt = omega arith
    fits (suc (suc (suc (suc (suc (suc zero)))))) lt = omega arith
    fits (suc (suc (suc (suc (suc (suc (suc zero))))))) lt = omega arith
    fits (suc (suc (suc (suc (suc (suc (suc (suc zero)))))))) lt = omega arith
    fits (suc (suc (suc (suc (suc (suc (suc (suc (suc k))))))))) lt = absurd (omega (arith, lt))
