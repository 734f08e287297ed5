use Rattle.std.proofs.Common.{◌≡◌, drop}
use Rattle.fx_leaf.specs.Reach.{marks_by_holders, holders_along}
use Rattle.fx_leaf.proofs.reach.mark_along.Given as goal

abbrev pub invariant-loop-crossing : goal.invariant-loop-crossing
invariant-loop-crossing l =
    marks_by_holders l.tables.net l.tables.numbering l.marks (holders_along l.tables.net (drop l.crossing-index l.path))
    ≡ marks_by_holders l.tables.net l.tables.numbering l.initial.marks (holders_along l.tables.net l.path)
