use Rattle.std.proofs.Common.{◌≡◌, [], replicate}
use Rattle.fx_machine.proofs.store.empty_lists.Given as goal

abbrev pub invariant-loop-place : goal.invariant-loop-place
invariant-loop-place l = l.lists.items ≡ replicate l._place []
