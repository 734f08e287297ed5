use Rattle.std.proofs.Common.{◌≡◌, ◌<◌, ℕ, slice_get, slice_index, Some}
use Rattle.fx_tables.specs.Network.{Process}
use Rattle.fx_leaf.specs.PathTables.{HasNoMarkOrAggregation}
use Rattle.fx_leaf.proofs.path_scratch.take_none_in.Given as goal

-- none takes records in so far
abbrev pub invariant-loop-index : goal.invariant-loop-index
invariant-loop-index l = (k : ℕ) (p : Process) → k < l.index → slice_get l.processes k ≡ Some p
    → HasNoMarkOrAggregation (slice_index l.marks k) p
