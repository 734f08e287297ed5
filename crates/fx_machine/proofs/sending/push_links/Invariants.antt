use Rattle.std.proofs.Common.{◌≡◌, ◌++◌, take}
use Rattle.fx_machine.specs.Sends.{links_of}
use Rattle.fx_machine.proofs.sending.push_links.Given as goal

abbrev pub invariant-loop-destination : goal.invariant-loop-destination
invariant-loop-destination l = l.links.items ≡ l.initial.links.items
    ++ links_of (take l.destination-index l.destinations)
