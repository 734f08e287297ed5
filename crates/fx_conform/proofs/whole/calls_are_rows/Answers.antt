use Rattle.fx_conform.proofs.Lines.{lines_are_rows, opening_conforms}
use Rattle.fx_conform.proofs.WholeRuns.{closings_are_rows}
use Rattle.fx_conform.proofs.whole.calls_are_rows.Goals as goal

pub returns-clause-opens : goal.returns-clause-opens
returns-clause-opens c = opening_conforms

pub returns-clause-obeys : goal.returns-clause-obeys
returns-clause-obeys c = lines_are_rows

pub returns-clause-closes : goal.returns-clause-closes
returns-clause-closes c = closings_are_rows
