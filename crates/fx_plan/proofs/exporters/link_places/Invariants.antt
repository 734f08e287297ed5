use Rattle.std.proofs.Common.{◌≡◌, take, map}
use Rattle.std.specs.List.{position}
use Rattle.fx_topology.specs.Links.{leads_from}
use Rattle.fx_plan.proofs.exporters.link_places.Given as goal

abbrev pub invariant-loop-destination : goal.invariant-loop-destination
invariant-loop-destination l = l.places.items
    ≡ map (λ d. position (leads_from l.device l.process d.name) l.links) (take l.destination-index l.destinations)
