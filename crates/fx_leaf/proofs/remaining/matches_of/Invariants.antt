use Rattle.std.proofs.Common.{◌≡◌, length}
use Rattle.fx_leaf.specs.Remaining.{AreAggregations}
use Rattle.fx_leaf.proofs.remaining.matches_of.Given as goal

-- the lists so far are of the processes before the place
abbrev pub invariant-loop-index : goal.invariant-loop-index
invariant-loop-index l = AreAggregations l.processes l.lists.items × (length l.lists.items ≡ l.index)
