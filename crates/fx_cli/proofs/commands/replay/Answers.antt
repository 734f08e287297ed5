use Rattle.std.proofs.Common.{None}
use Rattle.fx_audit.specs.Commands.{IsReplayed, IsRefusedReplay}
use Rattle.fx_cli.proofs.CallOutputs.{yes_of_texts}
use Rattle.fx_cli.proofs.commands.replay.Goals as goal
use Rattle.fx_checker.proofs.RefusedTexts.{texts_refused}

pub returns-clause-answers : goal.returns-clause-answers
returns-clause-answers g c = (
  yes_of_texts (IsReplayed) _ c.replay_explained-answer.result None None _ _
      c.in_ok-network.ensures.ok c.replay_explained-answer.ensures.ok,
  c.replay_explained-answer.ensures.answers.1,
)

pub returns-clause-refused : goal.returns-clause-refused
returns-clause-refused g c = texts_refused IsRefusedReplay _ _ None None _ _ _ c.replay_explained-answer.result
    c.in_ok-network.ensures.ok c.replay_explained-answer.ensures.err
