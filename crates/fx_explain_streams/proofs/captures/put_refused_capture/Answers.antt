use Rattle.std.proofs.Common.{arith, rules}
use Rattle.fx_explain_streams.proofs.captures.put_refused_capture.Goals as goal

pub returns-in_err-octets-clause-err : goal.returns-in_err-octets-clause-err
returns-in_err-octets-clause-err g c = first_of (grind arith, search rules)
