use Rattle.std.proofs.Common.{inl, inr}
use Rattle.fx_checker.proofs.Documents.{exit_with}
use Rattle.fx_audit.proofs.lint_command.lint_both_explained.Goals as goal

pub returns-in_err-read_documents-clause-err : goal.returns-in_err-read_documents-clause-err
returns-in_err-read_documents-clause-err g c =
    exit_with _ _ _ c.from_residual.ensures (elim c.in_err-read_documents.ensures.err [
      | inl memory ↦ inl memory
      | inr (inl network) ↦ inr (inl network)
      | inr (inr (inl traffic)) ↦ inr (inr (inl traffic))
      | inr (inr (inr refused)) ↦ inr (inr (inr (inr refused)))
    ])
