use Rattle.std.proofs.Common.{◌≡◌, drop}
use Rattle.fx_leaf.specs.Reach.{marks_by_holders, holders_at}
use Rattle.fx_leaf.proofs.reach.mark_at_points.Given as goal

abbrev pub invariant-loop-point : goal.invariant-loop-point
invariant-loop-point l =
    marks_by_holders l.tables.net l.tables.numbering l.marks (holders_at (drop l.point-index l.points) l.crossing)
    ≡ marks_by_holders l.tables.net l.tables.numbering l.initial.marks (holders_at l.points l.crossing)
