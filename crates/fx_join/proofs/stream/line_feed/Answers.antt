use Rattle.fx_base.proofs.FirstLine.{feed_found}
use Rattle.fx_join.proofs.stream.line_feed.Goals as goal

pub returns-clause-found : goal.returns-clause-found
returns-clause-found c = (feed_found c.args.octets.now _ c.memchr.ensures).0

pub returns-clause-none : goal.returns-clause-none
returns-clause-none c = (feed_found c.args.octets.now _ c.memchr.ensures).1
