use Rattle.std.proofs.Common.{arith, rules}
use Rattle.fx_checker.proofs.Documents.{exit_with}
use Rattle.fx_audit.proofs.Metering.{unmetered}
use Rattle.fx_audit.proofs.run_command.run_capture.Goals as goal

pub returns-in_err-metered-clause-err : goal.returns-in_err-metered-clause-err
returns-in_err-metered-clause-err g c =
    exit_with _ _ _ c.from_residual.ensures (unmetered _ _ _ c.in_err-metered.ensures.err)

pub returns-clause-ok : goal.returns-clause-ok
returns-clause-ok g c = first_of (grind arith, search rules)
