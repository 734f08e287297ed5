use Rattle.std.proofs.Common.{arith, rules}
use Rattle.fx_audit.specs.Metering.{IsStateOfSource}
use Rattle.fx_checker.proofs.Documents.{exit_with}
use Rattle.fx_audit.proofs.Metering.{header_faultless, refused_behind}
use Rattle.fx_audit.proofs.run_command.meter.Goals as goal

pub returns-in_err-totals-clause-err : goal.returns-in_err-totals-clause-err
returns-in_err-totals-clause-err g c =
    exit_with _ _ _ c.from_residual-in_err-totals.ensures
    (refused_behind c.args.documents.now.plan c.args.documents.now.traffic (g.C.Source.left c.args.capture)
    (g.C.Source.calls c.args.capture) _ (IsStateOfSource g.C.Source.calls g.C.Source.failed) _ _ _ _ _ _ _
    c.in_ok-capture.ensures.ok (c.get_ref.result.now, c.get_ref.ensures.failed, c.get_ref.ensures.calls)
    c.in_err-totals.ensures.err)

pub returns-in_err-totals-clause-untouched : goal.returns-in_err-totals-clause-untouched
returns-in_err-totals-clause-untouched g c =
    header_faultless (g.C.Source.left c.args.capture) _ c.in_ok-capture.capture _ c.in_ok-capture.ensures.ok

pub returns-clause-untouched : goal.returns-clause-untouched
returns-clause-untouched g c = header_faultless (g.C.Source.left c.args.capture) _ c.in_ok-capture.capture _
    c.in_ok-capture.ensures.ok

pub returns-clause-ok : goal.returns-clause-ok
returns-clause-ok g c = first_of (grind arith, search rules)
