use Rattle.std.proofs.Common.{take}
use Rattle.fx_leaf.specs.Remaining.{AreRemaining}
use Rattle.fx_leaf.proofs.remaining.list_within.Given as goal

-- the list is right for those before the place
abbrev pub invariant-loop-index : goal.invariant-loop-index
invariant-loop-index l = AreRemaining l.region (take l.index l.others) l.listed.items
