use Rattle.std.proofs.Common.{sym, ap}
use Rattle.fx_tables.specs.Network.{process_at}
use Rattle.fx_net.proofs.Lookups.{none_in}
use Rattle.fx_net.proofs.arriving.process_behind.Goals as goal

pub returns-in-None : goal.returns-in-None
returns-in-None c =
    let net = c.args.net.now in
    sym (ap (process_at net.processes) (none_in c.links.result.now net.links c.args.link c.links.ensures
    c.in-None.ensures.lookup.3))
