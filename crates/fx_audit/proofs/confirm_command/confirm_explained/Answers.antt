use Rattle.fx_audit.specs.Confirms.{IsConfirmedIn, IsRefusedOtherwise}
use Rattle.fx_checker.proofs.Documents.{documents_done, documents_refused, documents_unread, exit_with}
use Rattle.fx_audit.proofs.Texts.{confirm_text}
use Rattle.fx_audit.proofs.confirm_command.confirm_explained.Goals as goal
use Rattle.fx_checker.proofs.Faultless.{documents_faultless, network_faultless}
use Rattle.fx_checker.proofs.Texts.{reported_as}

pub returns-clause-ok : goal.returns-clause-ok
returns-clause-ok g c =
    documents_done (g.N.Source.left c.args.network.now) (g.T.Source.left c.args.traffic.now)
    c.in_ok-documents.documents.plan c.in_ok-documents.documents.traffic
    (λ a text network classes. IsConfirmedIn network classes c.args.refutation.now a text) _ _
    c.confirm_lines.result c.in_ok-documents.ensures.network c.in_ok-documents.ensures.traffic
    c.confirm_lines.ensures.answers.0

pub returns-clause-err : goal.returns-clause-err
returns-clause-err g c =
    documents_refused (g.N.Source.left c.args.network.now) (g.T.Source.left c.args.traffic.now)
    c.in_ok-documents.documents.plan c.in_ok-documents.documents.traffic
    (λ e network classes. IsRefusedOtherwise network classes c.args.refutation.now e) _ _ _ _ c.confirm_lines.result
    c.in_ok-documents.ensures.network c.in_ok-documents.ensures.traffic c.confirm_lines.ensures.err

pub returns-in_err-documents-clause-err : goal.returns-in_err-documents-clause-err
returns-in_err-documents-clause-err g c =
    exit_with _ _ _ c.from_residual.ensures
    (documents_unread (g.N.Source.left c.args.network.now) (g.T.Source.left c.args.traffic.now)
    (λ network classes. IsRefusedOtherwise network classes c.args.refutation.now c.in_err-documents.field-0.0) _ _ _
    _ _ _ c.in_err-documents.ensures.err)

pub returns-clause-answers : goal.returns-clause-answers
returns-clause-answers g c = (
  reported_as _ _ _ _ c.confirm_lines.result
      (confirm_text c.in_ok-documents.documents.plan c.in_ok-documents.documents.traffic c.args.refutation.now)
      c.confirm_lines.ensures.answers.0,
  c.confirm_lines.ensures.answers.1,
)

pub returns-clause-order : goal.returns-clause-order
returns-clause-order g c = network_faultless (g.N.Source.left c.args.network.now) c.in_ok-documents.documents.plan _
    c.in_ok-documents.ensures.network

pub returns-clause-untouched : goal.returns-clause-untouched
returns-clause-untouched g c = documents_faultless (g.N.Source.left c.args.network.now)
    (g.T.Source.left c.args.traffic.now) c.in_ok-documents.documents.plan c.in_ok-documents.documents.traffic _
    c.in_ok-documents.ensures.network c.in_ok-documents.ensures.traffic
