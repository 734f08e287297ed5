use Rattle.std.proofs.Common.{◌≡◌, ◌≤◌, ◌+◌, ◌++◌, drop}
use Rattle.fx_leaf.specs.PathSelections.{point_selections}
use Rattle.fx_leaf.proofs.path_selections.PathSelections.push_processes.Given as goal

-- those so far, and behind them those that are still to come
abbrev pub invariant-loop-index : goal.invariant-loop-index
invariant-loop-index l =
    (l.self.items ++ point_selections l.crossing l.point (l.index + 1) (drop l.index l.processes) ≡ l.initial.self.items
    ++ point_selections l.crossing l.point 1 l.processes) × (l.initial.self.room ≤ l.self.room)
