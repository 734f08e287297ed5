use Rattle.std.proofs.Common.{arith, rules}
use Rattle.fx_explain_runs.proofs.schedules.put_refused_metering.Goals as goal

pub returns-in_err-octets-clause-err : goal.returns-in_err-octets-clause-err
returns-in_err-octets-clause-err g c = first_of (grind arith, search rules)
