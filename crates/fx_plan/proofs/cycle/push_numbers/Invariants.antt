use Rattle.std.proofs.Common.{◌≡◌, ◌++◌}
use Rattle.fx_plan.specs.Cycles.{numbers_on}
use Rattle.fx_plan.proofs.cycle.push_numbers.Given as goal

abbrev pub invariant-loop-n : goal.invariant-loop-n
invariant-loop-n l = l.numbers.items ≡ l.initial.numbers.items ++ numbers_on l.device l.n
