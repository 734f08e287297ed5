use Rattle.fx_cli.specs.Running.{IsBundleRefusal, IsBundleOutput}
use Rattle.fx_cli.proofs.EndsInJson.{ended_in_json}
use Rattle.fx_cli.proofs.in_json.input_in_json.Goals as goal
use Rattle.fx_checker.specs.Running.{IsRefusal}

pub returns-clause-ended : goal.returns-clause-ended
returns-clause-ended g c =
    ended_in_json g.S.Sink.taken g.S.Sink.failed IsBundleOutput (IsRefusal IsBundleRefusal) c.answer_input-answer.result
    c.new-text.result c.answer_input-answer.new.sink c.args.sink.now c.put_buffered.new.sink c.put_buffered.result
    c.new-text.ensures.empty c.answer_input-answer.ensures.answers c.answer_input-answer.ensures.refused
    c.put_buffered.ensures.memory c.put_buffered.ensures.answered c.put_buffered.ensures.refused
