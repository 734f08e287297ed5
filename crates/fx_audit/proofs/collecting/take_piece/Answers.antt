use Rattle.std.proofs.Common.{arith, rules}
use Rattle.fx_audit.proofs.collecting.take_piece.Goals as goal

pub returns-clause-session : goal.returns-clause-session
returns-clause-session g c = first_of (grind arith, search rules)
