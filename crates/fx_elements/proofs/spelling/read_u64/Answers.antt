use Rattle.std.proofs.Common.{arith, rules}
use Rattle.fx_elements.proofs.spelling.read_u64.Goals as goal

pub returns-in_err-read_number : goal.returns-in_err-read_number
returns-in_err-read_number c = first_of (grind arith, search rules)
