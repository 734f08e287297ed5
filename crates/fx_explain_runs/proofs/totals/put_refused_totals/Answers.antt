use Rattle.std.proofs.Common.{arith, rules}
use Rattle.fx_explain_runs.proofs.totals.put_refused_totals.Goals as goal

pub returns-in_err-out-clause-err : goal.returns-in_err-out-clause-err
returns-in_err-out-clause-err g c = first_of (grind arith, search rules)
