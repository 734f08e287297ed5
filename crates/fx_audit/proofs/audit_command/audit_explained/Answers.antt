use Rattle.fx_audit.specs.Audits.{IsAuditedIn}
use Rattle.fx_audit.proofs.Audits.{audit_unread}
use Rattle.fx_checker.proofs.Documents.{documents_done, exit_with}
use Rattle.fx_audit.proofs.Texts.{audit_text}
use Rattle.fx_audit.proofs.audit_command.audit_explained.Goals as goal
use Rattle.fx_checker.proofs.Texts.{reported_as}

pub returns-clause-ok : goal.returns-clause-ok
returns-clause-ok g c =
    documents_done (g.N.Source.left c.args.network.now) (g.T.Source.left c.args.traffic.now)
    c.in_ok-documents.documents.plan c.in_ok-documents.documents.traffic
    (λ a text network classes. IsAuditedIn network classes c.args.limit a text) _ _ c.audit.result
    c.in_ok-documents.ensures.network c.in_ok-documents.ensures.traffic c.audit.ensures.answers.0

pub returns-in_err-documents-clause-err : goal.returns-in_err-documents-clause-err
returns-in_err-documents-clause-err g c =
    exit_with _ _ _ c.from_residual.ensures
    (audit_unread (g.N.Source.left c.args.network.now) (g.T.Source.left c.args.traffic.now) _ _ _ _ _
    c.in_err-documents.ensures.err)

pub returns-clause-answers : goal.returns-clause-answers
returns-clause-answers g c = (
  reported_as _ _ _ _ c.audit.result (audit_text c.in_ok-documents.documents.plan c.in_ok-documents.documents.traffic
      c.args.limit) c.audit.ensures.answers.0,
  c.audit.ensures.answers.1,
)
