use Rattle.std.proofs.Common.{arith, rules}
use Rattle.fx_session.proofs.session.Session.feed.Goals as goal

pub returns-clause-fed : goal.returns-clause-fed
returns-clause-fed c = first_of (grind arith, search rules)
