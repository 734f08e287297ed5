use Rattle.std.proofs.Common.{◌≡◌, ◌≤◌, ◌+◌, ◌++◌, drop}
use Rattle.fx_leaf.specs.PathSelections.{crossing_selections}
use Rattle.fx_leaf.proofs.path_selections.PathSelections.push_points.Given as goal

-- those so far, and behind them those that are still to come
abbrev pub invariant-loop-index : goal.invariant-loop-index
invariant-loop-index l =
    (l.self.items ++ crossing_selections l.number (l.index + 1) (drop l.index l.points) l.crossing
    ≡ l.initial.self.items ++ crossing_selections l.number 1 l.points l.crossing)
    × (l.initial.self.room ≤ l.self.room)
