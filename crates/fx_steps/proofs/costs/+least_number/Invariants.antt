use Rattle.std.proofs.Common.{length}
use Rattle.fx_steps.proofs.costs.+least_number.Given as goal

abbrev pub decreases-least_number : goal.decreases-least_number
decreases-least_number l = length l.numbers.now
