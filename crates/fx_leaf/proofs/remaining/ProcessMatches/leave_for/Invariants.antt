use Rattle.std.proofs.Common.{◌≡◌}
use Rattle.fx_leaf.proofs.remaining.ProcessMatches.leave_for.Given as goal

abbrev pub invariant-loop-region : goal.invariant-loop-region
invariant-loop-region l = l.self ≡ l.initial.self
