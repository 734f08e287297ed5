use Rattle.fx_conform.proofs.WholeRuns.{runs_are_complete, totals_are_plain_sums, totals_are_sums_modulo}
use Rattle.fx_conform.proofs.whole.runs_are_complete.Goals as goal

pub returns-clause-complete : goal.returns-clause-complete
returns-clause-complete c = runs_are_complete

pub returns-clause-once : goal.returns-clause-once
returns-clause-once c = totals_are_plain_sums

pub returns-clause-modulo : goal.returns-clause-modulo
returns-clause-modulo c = totals_are_sums_modulo
