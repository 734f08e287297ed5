use Rattle.std.proofs.Common.{◌≡◌, drop}
use Rattle.fx_tables.specs.Network.{at_places}
use Rattle.fx_leaf.specs.Reach.{marks_by}
use Rattle.fx_leaf.proofs.reach.mark_by.Given as goal

abbrev pub invariant-loop-index : goal.invariant-loop-index
invariant-loop-index l =
    marks_by l.net l.layouts l.marks (at_places l.net.exporters (drop l.index-index l.places))
    ≡ marks_by l.net l.layouts l.initial.marks (at_places l.net.exporters l.places)
