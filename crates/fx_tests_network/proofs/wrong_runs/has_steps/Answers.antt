use Rattle.fx_tests_network.proofs.Doublings.{are_tables, is_runnable}
use Rattle.fx_tests_network.proofs.wrong_runs.has_steps.Goals as goal

pub asked-requires-clause-tables : goal.asked-requires-clause-tables
asked-requires-clause-tables g c = are_tables c.network-net.result c.to_two-first.result c.network-net.ensures.tables

pub asked-requires-clause-runnable : goal.asked-requires-clause-runnable
asked-requires-clause-runnable g c =
    let e = c.network-net.ensures in
    is_runnable c.network-net.result c.to_two-first.result c.args.parallel c.args.one c.args.other e.tables
    c.to_two-first.ensures e.meter e.devices c.requires.one c.requires.other
