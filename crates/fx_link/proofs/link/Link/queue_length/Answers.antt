use Rattle.std.proofs.Common.{arith, rules}
use Rattle.fx_link.proofs.link.Link.queue_length.Goals as goal

pub returns : goal.returns
returns c = first_of (grind arith, search rules)
