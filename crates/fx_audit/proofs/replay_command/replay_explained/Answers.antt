use Rattle.fx_audit.specs.Commands.{IsRefusedRun, IsReplayedIn}
use Rattle.fx_checker.proofs.Documents.{documents_done_yes, documents_refused, documents_unread, exit_with}
use Rattle.fx_audit.proofs.Texts.{replay_text}
use Rattle.fx_audit.proofs.replay_command.replay_explained.Goals as goal
use Rattle.fx_checker.proofs.Faultless.{documents_faultless, network_faultless}
use Rattle.fx_checker.proofs.Texts.{yes_reported_as}

pub returns-clause-ok : goal.returns-clause-ok
returns-clause-ok g c =
    documents_done_yes (g.N.Source.left c.args.network.now) (g.T.Source.left c.args.traffic.now)
    c.in_ok-documents.documents.plan c.in_ok-documents.documents.traffic
    (λ text network classes. IsReplayedIn network classes c.args.run.now text) _ _ c.replay_lines.result
    c.in_ok-documents.ensures.network c.in_ok-documents.ensures.traffic c.replay_lines.ensures.ok

pub returns-clause-err : goal.returns-clause-err
returns-clause-err g c =
    documents_refused (g.N.Source.left c.args.network.now) (g.T.Source.left c.args.traffic.now)
    c.in_ok-documents.documents.plan c.in_ok-documents.documents.traffic
    (λ e network classes. IsRefusedRun network classes c.args.run.now e) _ _ _ _ c.replay_lines.result
    c.in_ok-documents.ensures.network c.in_ok-documents.ensures.traffic c.replay_lines.ensures.err

pub returns-in_err-documents-clause-err : goal.returns-in_err-documents-clause-err
returns-in_err-documents-clause-err g c =
    exit_with _ _ _ c.from_residual.ensures
    (documents_unread (g.N.Source.left c.args.network.now) (g.T.Source.left c.args.traffic.now)
    (λ network classes. IsRefusedRun network classes c.args.run.now c.in_err-documents.field-0.0) _ _ _ _ _ _
    c.in_err-documents.ensures.err)

pub returns-clause-answers : goal.returns-clause-answers
returns-clause-answers g c = (
  yes_reported_as _ _ _ _ c.replay_lines.result
      (replay_text c.in_ok-documents.documents.plan c.in_ok-documents.documents.traffic c.args.run.now)
      c.replay_lines.ensures.ok,
  c.replay_lines.ensures.quiet,
)

pub returns-clause-order : goal.returns-clause-order
returns-clause-order g c = network_faultless (g.N.Source.left c.args.network.now) c.in_ok-documents.documents.plan _
    c.in_ok-documents.ensures.network

pub returns-clause-untouched : goal.returns-clause-untouched
returns-clause-untouched g c = documents_faultless (g.N.Source.left c.args.network.now)
    (g.T.Source.left c.args.traffic.now) c.in_ok-documents.documents.plan c.in_ok-documents.documents.traffic _
    c.in_ok-documents.ensures.network c.in_ok-documents.ensures.traffic
