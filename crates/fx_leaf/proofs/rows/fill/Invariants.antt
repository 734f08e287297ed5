use Rattle.fx_leaf.proofs.RowsGrow.{FilledTo}
use Rattle.fx_leaf.proofs.rows.fill.Given as goal

abbrev pub invariant-loop-process : goal.invariant-loop-process
invariant-loop-process l = FilledTo l.tables l.region l.marks l.tables.order l.rows l.process-index
