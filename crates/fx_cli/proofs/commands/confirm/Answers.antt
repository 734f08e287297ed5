use Rattle.std.proofs.Common.{None}
use Rattle.fx_audit.specs.Commands.{IsConfirmed, IsRefusedConfirm}
use Rattle.fx_cli.proofs.commands.confirm.Goals as goal
use Rattle.fx_checker.proofs.Outputs.{of_texts}
use Rattle.fx_checker.proofs.RefusedTexts.{texts_refused}

pub returns-clause-answers : goal.returns-clause-answers
returns-clause-answers g c = (
  of_texts (λ answer n t lines text. IsConfirmed n t lines answer text) _
      c.confirm_explained-answer.result None None _ _ c.in_ok-network.ensures.ok c.confirm_explained-answer.ensures.ok,
  c.confirm_explained-answer.ensures.answers.1,
)

pub returns-clause-refused : goal.returns-clause-refused
returns-clause-refused g c = texts_refused IsRefusedConfirm _ _ None None _ _ _ c.confirm_explained-answer.result
    c.in_ok-network.ensures.ok c.confirm_explained-answer.ensures.err
