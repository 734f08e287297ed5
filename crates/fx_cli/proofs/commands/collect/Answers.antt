use Rattle.std.proofs.Common.{None}
use Rattle.fx_audit.specs.Commands.{IsCollected}
use Rattle.fx_cli.proofs.CallOutputs.{yes_of_documents}
use Rattle.fx_audit.specs.Commands.{IsRefusedCollect}
use Rattle.fx_cli.proofs.CallRefusals.{documents_refused}
use Rattle.fx_cli.proofs.commands.collect.Goals as goal

pub returns-clause-answers : goal.returns-clause-answers
returns-clause-answers g c = (
  yes_of_documents IsCollected c.collect_explained-answer.result None None _ _
      c.collect_explained-answer.ensures.ok,
  c.collect_explained-answer.ensures.answers.1,
)

pub returns-clause-refused : goal.returns-clause-refused
returns-clause-refused g c = documents_refused IsRefusedCollect None None _ _ _ c.collect_explained-answer.result
    c.collect_explained-answer.ensures.err
