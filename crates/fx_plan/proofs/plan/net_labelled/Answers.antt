use Rattle.std.proofs.Common.{◌∙◌}
use Rattle.fx_plan.proofs.Nets.{net_is}
use Rattle.fx_plan.proofs.plan.net_labelled.Goals as goal

pub returns : goal.returns
returns c =
    c.new.ensures ∙ net_is c.args.network.now _ _ _ _ _ _ _ _ _ _
    c.as_slice-devices.ensures c.as_slice.ensures c.requires
    c.in_ok-tables.ensures c.in_ok-exporters.ensures c.in_ok-holders.ensures.holders c.in_ok-holders.ensures.processes
    c.in_ok-ends.ensures
    c.place-report_place.ensures c.report_layout_of-layout.ensures
