use Rattle.std.proofs.Common.{◌≡◌, length}
use Rattle.fx_leaf.proofs.table.no_marks.Given as goal

abbrev pub invariant-loop-process : goal.invariant-loop-process
invariant-loop-process l = length l.marks.items ≡ l._process
