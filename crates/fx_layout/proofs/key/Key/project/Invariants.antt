use Rattle.std.proofs.Common.{◌≡◌, take, map}
use Rattle.fx_layout.specs.Keys.{bits_on}
use Rattle.fx_layout.proofs.key.Key.project.Given as goal

abbrev pub invariant-loop-part : goal.invariant-loop-part
invariant-loop-part l = l.values.items ≡ map (λ part. bits_on l.self part.axis part.bits)
    (take l.part-index l.part-items)
