use Rattle.std.proofs.Common.{◌≡◌, ◌+◌, drop}
use Rattle.fx_leaf.proofs.PathSelectionsGrow.{count_watching}
use Rattle.fx_leaf.proofs.path_selections.count_on_crossing.Given as goal

-- the count so far, with what is still to come
abbrev pub invariant-loop-point : goal.invariant-loop-point
invariant-loop-point l = l.count + count_watching l.crossing (drop l.point-index l.points)
    ≡ count_watching l.crossing l.points
