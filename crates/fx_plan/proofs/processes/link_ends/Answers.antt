use Rattle.std.proofs.Common.{ℕ, []}
use Rattle.fx_topology.specs.declared.link.NamedLink.{NamedLink}
use Rattle.fx_plan.specs.Labels.{place}
use Rattle.fx_plan.proofs.Loops.{one_made, all_made}
use Rattle.fx_plan.proofs.processes.link_ends.Goals as goal

pub loop-link-preserved : goal.loop-link-preserved
loop-link-preserved c =
    let end : NamedLink → ℕ = λ (link : NamedLink). place c.args.collecting.now link.to_device link.to_process in
    one_made end [] c.args.links.now c.loop-link.link-index c.link-item.result c.place.result c.loop-link.ends.items _
    c.loop-link-test.true c.link-item.is c.place.ensures c.loop-link.invariant c.in_ok-push.ensures.items

pub returns : goal.returns
returns c =
    let end : NamedLink → ℕ = λ (link : NamedLink). place c.args.collecting.now link.to_device link.to_process in
    all_made end [] c.args.links.now c.loop-link.link-index c.loop-link.ends.items c.loop-link-test.false
    c.loop-link.invariant
