use Rattle.std.proofs.Common.{◌≡◌, map, take}
use Rattle.std.specs.List.{list_any}
use Rattle.fx_ranks.specs.Feeding.{leads_to, places_of}
use Rattle.fx_ranks.proofs.linked_processes.linked_processes_of.Given as goal

abbrev pub invariant-loop-destination : goal.invariant-loop-destination
invariant-loop-destination l = l.flags.items
    ≡ map (λ to. list_any (leads_to l.net to) (take l.destination-index l.destination-items)) (places_of l.net)
