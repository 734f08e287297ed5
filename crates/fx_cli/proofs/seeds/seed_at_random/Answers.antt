use Rattle.std.proofs.Common.{arith, rules}
use Rattle.fx_cli.proofs.seeds.seed_at_random.Goals as goal

pub returns-then-is_err : goal.returns-then-is_err
returns-then-is_err g c = first_of (grind arith, search rules)
