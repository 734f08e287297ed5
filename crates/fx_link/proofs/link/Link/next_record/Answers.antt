use Rattle.std.proofs.Common.{arith, rules}
use Rattle.fx_link.proofs.link.Link.next_record.Goals as goal

pub returns-clause-receiver : goal.returns-clause-receiver
returns-clause-receiver c = first_of (grind arith, search rules)
