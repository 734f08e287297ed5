use Rattle.std.proofs.Common.{arith, rules}
use Rattle.fx_run_text.proofs.run_line.read_choice.Goals as goal

pub returns-then-is_word : goal.returns-then-is_word
returns-then-is_word c = first_of (grind arith, search rules)
