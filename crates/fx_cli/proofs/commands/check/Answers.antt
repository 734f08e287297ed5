use Rattle.std.proofs.Common.{None}
use Rattle.fx_cli.proofs.commands.check.Goals as goal
use Rattle.fx_checker.specs.Checks.{IsChecked, IsRefusedCheck}
use Rattle.fx_checker.proofs.Outputs.{of_texts}
use Rattle.fx_checker.proofs.RefusedTexts.{texts_refused}

pub returns-clause-answers : goal.returns-clause-answers
returns-clause-answers g c = (
  of_texts (λ answer n t lines text. IsChecked n t lines answer text) _
      c.check_explained.result None None _ _ c.in_ok-network.ensures.ok c.check_explained.ensures.ok,
  c.check_explained.ensures.answers.1,
)

pub returns-clause-refused : goal.returns-clause-refused
returns-clause-refused g c = texts_refused IsRefusedCheck _ _ None None _ _ _ c.check_explained.result
    c.in_ok-network.ensures.ok c.check_explained.ensures.err
