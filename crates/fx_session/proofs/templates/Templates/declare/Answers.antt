use Rattle.std.proofs.Common.{arith, rules}
use Rattle.fx_session.proofs.templates.Templates.declare.Goals as goal

pub returns-in-Plain : goal.returns-in-Plain
returns-in-Plain c = first_of (grind arith, search rules)
