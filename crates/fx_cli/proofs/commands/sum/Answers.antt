use Rattle.std.proofs.Common.{None}
use Rattle.fx_audit.specs.Sums.{IsRefusedSum, IsSummed}
use Rattle.fx_cli.proofs.CallOutputs.{yes_of_lines}
use Rattle.fx_cli.proofs.CallRefusals.{lines_refused}
use Rattle.fx_cli.proofs.commands.sum.Goals as goal
use Rattle.fx_checker.proofs.Outputs.{at_beginning}

pub returns-clause-answers : goal.returns-clause-answers
returns-clause-answers g c = (
  yes_of_lines IsSummed _ c.sum_explained-answer.result None _ _
      (at_beginning _ _ _ _ c.in_ok-lines.ensures.ok) c.sum_explained-answer.ensures.ok,
  c.sum_explained-answer.ensures.answers.1,
)

pub returns-clause-refused : goal.returns-clause-refused
returns-clause-refused g c = lines_refused IsRefusedSum _ _ None _ _ c.sum_explained-answer.result
    (at_beginning _ _ _ _ c.in_ok-lines.ensures.ok) c.sum_explained-answer.ensures.err
