use Rattle.std.proofs.Common.{refl}
use Rattle.fx_checker.proofs.Documents.{exit_with}
use Rattle.fx_audit.proofs.Metering.{run_done, run_refused, run_unread}
use Rattle.fx_audit.proofs.run_command.run_explained.Goals as goal
use Rattle.fx_checker.proofs.Faultless.{documents_faultless}
use Rattle.fx_checker.proofs.Texts.{yes_reported_as}

pub returns-clause-ok : goal.returns-clause-ok
returns-clause-ok g c =
    run_done (g.N.Source.left c.args.network.now) (g.T.Source.left c.args.traffic.now)
    (g.C.Source.left c.args.capture.now) (g.C.Source.calls c.args.capture.now) c.in_ok-documents.documents.plan
    c.in_ok-documents.documents.traffic c.args.schedule.now c.run_capture.new.schedule _ _ _ _ c.run_capture.result
    c.plans_are_sound.ensures c.in_ok-documents.ensures.network c.in_ok-documents.ensures.traffic
    c.run_capture.ensures.ok

pub returns-clause-err : goal.returns-clause-err
returns-clause-err g c =
    run_refused (g.N.Source.left c.args.network.now) (g.T.Source.left c.args.traffic.now)
    (g.C.Source.left c.args.capture.now) (g.C.Source.calls c.args.capture.now) _ _ _ _
    c.in_ok-documents.documents.plan c.in_ok-documents.documents.traffic c.args.schedule.now
    c.run_capture.new.schedule _ _ _ _ _ c.run_capture.result (λ unread. (unread.0.now, unread.1))
    (λ to state. (state.0.now, state.1, state.2)) c.in_ok-documents.ensures.network
    c.in_ok-documents.ensures.traffic c.run_capture.ensures.err

pub returns-in_err-documents-clause-err : goal.returns-in_err-documents-clause-err
returns-in_err-documents-clause-err g c =
    exit_with _ _ _ c.from_residual.ensures
    (run_unread (g.N.Source.left c.args.network.now) (g.T.Source.left c.args.traffic.now)
    (g.C.Source.left c.args.capture.now) (g.C.Source.calls c.args.capture.now) _ _ c.args.schedule.now _ _ _ _ _ _ _
    c.in_err-documents.ensures.err)

pub returns-clause-untouched : goal.returns-clause-untouched
returns-clause-untouched g c =
    documents_faultless (g.N.Source.left c.args.network.now) (g.T.Source.left c.args.traffic.now)
    c.in_ok-documents.documents.plan c.in_ok-documents.documents.traffic _ c.in_ok-documents.ensures.network
    c.in_ok-documents.ensures.traffic

pub returns-clause-answers : goal.returns-clause-answers
returns-clause-answers g c = (
  yes_reported_as _ _ _ _ c.run_capture.result
      (λ text is. (refl, (is.totals, is.skipped.other, is.skipped.malformed, is.text_is))) c.run_capture.ensures.ok,
  c.run_capture.ensures.quiet,
)
