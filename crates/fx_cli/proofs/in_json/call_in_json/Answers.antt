use Rattle.fx_cli.specs.Running.{IsCallRefusal, IsCallText}
use Rattle.fx_cli.proofs.EndsInJson.{ended_in_json}
use Rattle.fx_cli.proofs.in_json.call_in_json.Goals as goal

pub returns-clause-ended : goal.returns-clause-ended
returns-clause-ended g c =
    ended_in_json g.S.Sink.taken g.S.Sink.failed (IsCallText c.args.call.now) (IsCallRefusal c.args.call.now)
    c.answer_call-answer.result c.new-text.result c.answer_call-answer.new.sink c.args.sink.now
    c.put_buffered.new.sink c.put_buffered.result
    c.new-text.ensures.empty c.answer_call-answer.ensures.answers c.answer_call-answer.ensures.refused
    c.put_buffered.ensures.memory c.put_buffered.ensures.answered c.put_buffered.ensures.refused
