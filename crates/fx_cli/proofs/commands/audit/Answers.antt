use Rattle.std.proofs.Common.{None}
use Rattle.fx_audit.specs.Commands.{IsAudited}
use Rattle.fx_cli.proofs.CallOutputs.{of_documents}
use Rattle.fx_checker.specs.Documents.{IsRefusedByDocuments}
use Rattle.fx_cli.proofs.CallRefusals.{documents_refused}
use Rattle.fx_cli.proofs.commands.audit.Goals as goal

pub returns-clause-answers : goal.returns-clause-answers
returns-clause-answers g c = (
  of_documents (λ answer n t text. IsAudited n t c.args.limit answer text)
      c.audit_explained.result None None _ _ c.audit_explained.ensures.ok,
  c.audit_explained.ensures.answers.1,
)

pub returns-clause-refused : goal.returns-clause-refused
returns-clause-refused g c = documents_refused IsRefusedByDocuments None None _ _ _ c.audit_explained.result
    c.audit_explained.ensures.err
