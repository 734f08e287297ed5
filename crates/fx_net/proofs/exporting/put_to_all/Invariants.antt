-- What the rest of the destinations makes of the links so far is what all make of those at the beginning.
use Rattle.std.proofs.Common.{◌≡◌, drop}
use Rattle.fx_machine.specs.Sends.{links_of}
use Rattle.fx_net.specs.Exporting.{put_each}
use Rattle.fx_net.proofs.exporting.put_to_all.Given as goal

abbrev pub invariant-loop-destination : goal.invariant-loop-destination
invariant-loop-destination l =
    put_each l.time l.flow (links_of (drop l.destination-index l.destinations)) l.links.items
    ≡ put_each l.time l.flow (links_of l.destinations) l.initial.links.items
