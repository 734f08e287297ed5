use Rattle.fx_cli.specs.Running.{IsCallRefusal, IsCallText}
use Rattle.fx_cli.proofs.CallOutputs.{ended_explained}
use Rattle.fx_cli.proofs.running.explain_call.Goals as goal

pub returns-clause-ended : goal.returns-clause-ended
returns-clause-ended g c =
    ended_explained g.S.Sink.taken g.S.Sink.failed (IsCallText c.args.call.now) (IsCallRefusal c.args.call.now)
    c.answer_call-answer.result _ c.args.sink.now c.answer_call-answer.new.sink c.finish_with.new.sink
    c.finish_with.result
    c.answer_call-answer.ensures.answers c.answer_call-answer.ensures.refused c.finish_with.ensures.answered
    c.finish_with.ensures.refused
