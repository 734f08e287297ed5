use Rattle.std.proofs.Common.{◌≡◌, ◌<◌, ℕ, Some, slice_get}
use Rattle.fx_leaf.specs.PathTables.{HasPathRoom, HasProcessRoom}
use Rattle.fx_traffic.specs.Targets.{Target}
use Rattle.fx_check.proofs.checking.make_room.Given as goal

-- there is room for the paths so far
abbrev pub invariant-loop-index : goal.invariant-loop-index
invariant-loop-index l = HasProcessRoom l.tables l.scratch
    × ((k : ℕ) (target : Target) → k < l.index → slice_get l.targets k ≡ Some target
    → HasPathRoom l.tables target.crossings l.scratch)
