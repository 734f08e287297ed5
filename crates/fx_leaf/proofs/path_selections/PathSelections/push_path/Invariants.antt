use Rattle.std.proofs.Common.{◌≡◌, ◌≤◌, ◌+◌, ◌++◌, drop}
use Rattle.fx_leaf.specs.PathSelections.{path_selections}
use Rattle.fx_leaf.proofs.path_selections.PathSelections.push_path.Given as goal

-- those so far, and behind them those that are still to come
abbrev pub invariant-loop-index : goal.invariant-loop-index
invariant-loop-index l =
    (l.self.items ++ path_selections l.net (l.index + 1) (drop l.index l.path) ≡ l.initial.self.items
    ++ path_selections l.net 1 l.path) × (l.initial.self.room ≤ l.self.room)
