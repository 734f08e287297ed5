use Rattle.std.proofs.Common.{◌≡◌, true, replicate}
use Rattle.fx_machine.proofs.coming.many_marks.Given as goal

abbrev pub invariant-loop-crossing : goal.invariant-loop-crossing
invariant-loop-crossing l = l.many.items ≡ replicate l._crossing true
