use Rattle.std.proofs.Common.{◌≡◌}
use Rattle.fx_leaf.proofs.remaining.enter_marked.Given as goal

abbrev pub invariant-loop-process : goal.invariant-loop-process
invariant-loop-process l = l.matches.items ≡ l.initial.matches.items
