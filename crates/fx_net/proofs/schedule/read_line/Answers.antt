use Rattle.std.proofs.Common.{arith, rules}
use Rattle.fx_net.proofs.schedule.read_line.Goals as goal

pub returns-then-is_word : goal.returns-then-is_word
returns-then-is_word c = first_of (grind arith, search rules)
