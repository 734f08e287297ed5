use Rattle.std.proofs.Common.{arith, rules}
use Rattle.fx_link.proofs.sender.Sender.send.Goals as goal

pub returns-clause-sender : goal.returns-clause-sender
returns-clause-sender c = first_of (grind arith, search rules)
