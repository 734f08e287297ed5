-- All pairs are left at the beginning.
use Rattle.std.proofs.Common.{◌≡◌, ℕ, ◌+◌, Bool, List, [], ◌∷◌, ◌++◌, refl, ap, if◌then◌else◌}
use Rattle.fx_config.specs.declared.selection_process.SelectionProcess.{SelectionProcess}
use Rattle.fx_config.specs.declared.observation_point.ObservationPoint.{ObservationPoint}
use Rattle.fx_selectors.specs.Feeding.{fed_by, fed_from, feeds_left, watches}

pub left_all : (processes : List SelectionProcess) (interface : List ℕ) (inwards : Bool) (number : ℕ)
    (points : List ObservationPoint) → feeds_left processes interface inwards number 0 points
    ≡ fed_from processes interface inwards number points
left_all processes interface inwards number [] = refl
left_all processes interface inwards number (point ∷ points) =
    ap (λ (rest : List (ℕ × ℕ)). (if watches point interface inwards then fed_by processes number point else [])
    ++ rest) (left_all processes interface inwards (number + 1) points)
