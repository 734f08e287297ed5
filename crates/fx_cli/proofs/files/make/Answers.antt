use Rattle.std.proofs.Common.{arith, rules}
use Rattle.fx_cli.proofs.files.make.Goals as goal

pub returns-in-Err : goal.returns-in-Err
returns-in-Err g c = first_of (grind arith, search rules)
