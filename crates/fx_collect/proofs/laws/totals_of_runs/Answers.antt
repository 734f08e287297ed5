use Rattle.fx_collect.proofs.Runs.{run_table, run_restated}
use Rattle.fx_collect.proofs.laws.totals_of_runs.Goals as goal

pub returns-clause-table : goal.returns-clause-table
returns-clause-table c = run_table

pub returns-clause-reported : goal.returns-clause-reported
returns-clause-reported c = λ net classes packets steps last e l. run_restated net classes packets steps last l e
