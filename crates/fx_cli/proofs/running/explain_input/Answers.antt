use Rattle.fx_cli.specs.Running.{IsBundleRefusal, IsBundleOutput}
use Rattle.fx_cli.proofs.CallOutputs.{ended_explained}
use Rattle.fx_cli.proofs.running.explain_input.Goals as goal
use Rattle.fx_checker.specs.Running.{IsRefusal}

pub returns-clause-ended : goal.returns-clause-ended
returns-clause-ended g c =
    ended_explained g.S.Sink.taken g.S.Sink.failed IsBundleOutput (IsRefusal IsBundleRefusal)
    c.answer_input-answer.result _ c.args.sink.now c.answer_input-answer.new.sink c.finish_with.new.sink
    c.finish_with.result
    c.answer_input-answer.ensures.answers c.answer_input-answer.ensures.refused c.finish_with.ensures.answered
    c.finish_with.ensures.refused
