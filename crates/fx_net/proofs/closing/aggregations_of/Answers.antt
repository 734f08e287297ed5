use Rattle.std.proofs.Common.{sym, ap, ◌∙◌}
use Rattle.fx_tables.specs.Network.{aggregations_of}
use Rattle.fx_net.proofs.Lookups.{found_in, none_in}
use Rattle.fx_net.proofs.closing.aggregations_of.Goals as goal

pub returns-in-None : goal.returns-in-None
returns-in-None c =
    sym (ap aggregations_of (none_in c.processes.result.now c.args.net.now.processes c.args.process c.processes.ensures
    c.in-None.ensures.lookup.3))

pub returns-in-Some : goal.returns-in-Some
returns-in-Some c =
    let process = c.in-Some.process.now in
    let at = c.in-Some.ensures.lookup.3 in
    c.aggregations.ensures
    ∙ sym (ap aggregations_of (found_in c.processes.result.now c.args.net.now.processes c.args.process process
    c.processes.ensures at.0 (at.1 process)))
