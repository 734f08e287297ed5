use Rattle.fx_cli.specs.Running.{IsBundleRefusal, IsBundleOutput}
use Rattle.fx_cli.proofs.running.finish_input.Goals as goal
use Rattle.fx_checker.specs.Running.{IsRefusal}
use Rattle.fx_checker.proofs.Outputs.{ended}

pub returns-clause-ended : goal.returns-clause-ended
returns-clause-ended g c =
    ended g.S.Sink.taken g.S.Sink.failed IsBundleOutput (IsRefusal IsBundleRefusal) c.answer_input-answer.result
    c.args.sink.now c.answer_input-answer.new.sink c.finish.new.sink c.finish.result
    c.answer_input-answer.ensures.answers c.answer_input-answer.ensures.refused c.finish.ensures.answered
    c.finish.ensures.refused
