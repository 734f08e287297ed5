use Rattle.std.proofs.Common.{arith, rules}
use Rattle.fx_cli.proofs.link_files.link_path.Goals as goal

pub returns : goal.returns
returns c = first_of (grind arith, search rules)
