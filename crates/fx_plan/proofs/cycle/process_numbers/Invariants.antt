use Rattle.std.proofs.Common.{◌≡◌, ◌++◌, ◌+◌, drop}
use Rattle.fx_plan.specs.Cycles.{numbers_from}
use Rattle.fx_plan.proofs.cycle.process_numbers.Given as goal

abbrev pub invariant-loop-index : goal.invariant-loop-index
invariant-loop-index l = l.numbers.items ++ numbers_from (l.index + 1) (drop l.index l.devices)
    ≡ numbers_from 1 l.devices
