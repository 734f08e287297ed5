use Rattle.fx_leaf.proofs.RowsGrow.{RowFilled}
use Rattle.fx_leaf.proofs.rows.fill_row.Given as goal

abbrev pub invariant-loop-number : goal.invariant-loop-number
invariant-loop-number l = RowFilled l.tables l.region l.layouts l.process l.initial.rows l.rows l.number
