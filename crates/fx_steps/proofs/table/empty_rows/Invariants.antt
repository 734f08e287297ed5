use Rattle.std.proofs.Common.{◌≡◌, length}
use Rattle.fx_steps.proofs.table.empty_rows.Given as goal

abbrev pub invariant-loop-process : goal.invariant-loop-process
invariant-loop-process l = length l.rows.items ≡ l._process
