use Rattle.std.proofs.Common.{ℕ, [], Option}
use Rattle.std.specs.List.{position}
use Rattle.fx_config.specs.declared.destination.Destination.{Destination}
use Rattle.fx_topology.specs.Links.{leads_from}
use Rattle.fx_plan.proofs.Loops.{one_made, all_made}
use Rattle.fx_plan.proofs.exporters.link_places.Goals as goal

pub loop-destination-preserved : goal.loop-destination-preserved
loop-destination-preserved c =
    let link : Destination → Option ℕ = λ (d : Destination). position
    (leads_from c.args.device.now c.args.process.now d.name) c.args.links.now in
    one_made link [] c.args.destinations.now c.loop-destination.destination-index c.destination-item.result
    c.in_ok-index.index c.loop-destination.places.items _ c.loop-destination-test.true c.destination-item.is
    c.in_ok-index.ensures c.loop-destination.invariant c.in_ok-push.ensures.items

pub returns : goal.returns
returns c =
    let link : Destination → Option ℕ = λ (d : Destination). position
    (leads_from c.args.device.now c.args.process.now d.name) c.args.links.now in
    all_made link [] c.args.destinations.now c.loop-destination.destination-index c.loop-destination.places.items
    c.loop-destination-test.false c.loop-destination.invariant
