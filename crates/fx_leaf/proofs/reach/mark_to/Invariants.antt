use Rattle.std.proofs.Common.{◌≡◌, drop}
use Rattle.fx_leaf.specs.Reach.{marks_to}
use Rattle.fx_leaf.proofs.reach.mark_to.Given as goal

abbrev pub invariant-loop-destination : goal.invariant-loop-destination
invariant-loop-destination l =
    marks_to l.net l.layouts l.marks (drop l.destination-index l.destinations)
    ≡ marks_to l.net l.layouts l.initial.marks l.destinations
