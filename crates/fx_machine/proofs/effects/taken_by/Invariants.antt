use Rattle.std.proofs.Common.{◌≡◌, ◌++◌, drop, map}
use Rattle.fx_machine.specs.Effects.{taken_by}
use Rattle.fx_machine.proofs.effects.taken_by.Given as goal

abbrev pub invariant-loop-index : goal.invariant-loop-index
invariant-loop-index l =
    l.taken.items ++ taken_by (map (λ h. h.holder) (drop l.index l.holdings)) (drop l.index l.choices)
    ≡ taken_by (map (λ h. h.holder) l.holdings) l.choices
