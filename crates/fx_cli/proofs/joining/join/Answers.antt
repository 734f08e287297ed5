use Rattle.std.proofs.Common.{None}
use Rattle.fx_join.specs.Joins.{IsJoined, IsRefusedJoin}
use Rattle.fx_cli.proofs.CallOutputs.{of_files}
use Rattle.fx_cli.proofs.CallRefusals.{files_refused}
use Rattle.fx_cli.proofs.joining.join.Goals as goal

pub returns-clause-answers : goal.returns-clause-answers
returns-clause-answers g c = (
  of_files (λ answer n t p text. IsJoined n t p answer text) c.join_explained.result None None None _ _
      c.join_explained.ensures.ok,
  c.join_explained.ensures.answers.1,
)

pub returns-clause-refused : goal.returns-clause-refused
returns-clause-refused g c = files_refused IsRefusedJoin None None None _ _ _ _ c.join_explained.result
    c.join_explained.ensures.err
