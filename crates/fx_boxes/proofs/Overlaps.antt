-- Fields that are in both of two regions.
use Rattle.std.proofs.Common.{◌≡◌, ℕ, ◌≤◌, ◌<◌, List, map, max, get_or, subst, arith}
use Rattle.fx_elements.specs.declared.axis.Axis.{Axis}
use Rattle.fx_elements.specs.Axes.{axes, axis_count, axis_index}
use Rattle.fx_elements.proofs.EveryAxis.{placed, value_at}
use Rattle.fx_boxes.specs.Boxes.{Bounds, IsRegion, IsDisjoint}

abbrev pub greater_low : Bounds → Bounds → Axis → ℕ
greater_low a b axis = max (get_or a.low (axis_index axis) 0) (get_or b.low (axis_index axis) 0)

-- on each axis neither region is above the other
abbrev pub Overlap : Bounds → Bounds → ℕ → Type 0
Overlap a b k = (get_or b.low k 0 ≤ get_or a.high k 0) × (get_or a.low k 0 ≤ get_or b.high k 0)

greater_low_at : (a b : Bounds) (k : ℕ) → k < axis_count → get_or (map (greater_low a b) axes) k 0
    ≡ max (get_or a.low k 0) (get_or b.low k 0)
greater_low_at a b k lt =
    let at = placed k lt in
    subst (λ (j : ℕ). get_or (map (greater_low a b) axes) j 0 ≡ max (get_or a.low j 0) (get_or b.low j 0)) at.1
    (value_at (greater_low a b) at.0)

-- the greater lows are in both
pub not_apart : (a b : Bounds) → IsRegion a → IsRegion b → ((k : ℕ) → k < axis_count → Overlap a b k) → IsDisjoint a b
    → ⊥
not_apart a b one two over apart =
    apart (map (greater_low a b) axes)
    (λ k lt. let e = greater_low_at a b k lt in (omega arith, omega (arith, one k lt, over k lt)))
    (λ k lt. let e = greater_low_at a b k lt in (omega arith, omega (arith, two k lt, over k lt)))
