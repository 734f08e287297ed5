use Rattle.fx_cli.specs.Running.{IsCallRefusal, IsCallText}
use Rattle.fx_cli.proofs.running.finish_call.Goals as goal
use Rattle.fx_checker.proofs.Outputs.{ended}

pub returns-clause-ended : goal.returns-clause-ended
returns-clause-ended g c =
    ended g.S.Sink.taken g.S.Sink.failed (IsCallText c.args.call.now) (IsCallRefusal c.args.call.now)
    c.answer_call-answer.result c.args.sink.now c.answer_call-answer.new.sink c.finish.new.sink c.finish.result
    c.answer_call-answer.ensures.answers c.answer_call-answer.ensures.refused c.finish.ensures.answered
    c.finish.ensures.refused
