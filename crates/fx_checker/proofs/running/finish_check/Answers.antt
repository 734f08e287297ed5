use Rattle.fx_checker.specs.Running.{IsCheckOutput, IsCheckRefusal, IsRefusal}
use Rattle.fx_checker.proofs.Outputs.{ended}
use Rattle.fx_checker.proofs.running.finish_check.Goals as goal

pub returns-clause-ended : goal.returns-clause-ended
returns-clause-ended g c =
    ended g.S.Sink.taken g.S.Sink.failed IsCheckOutput (IsRefusal IsCheckRefusal) c.check_files-answer.result
    c.args.sink.now c.check_files-answer.new.sink c.finish.new.sink c.finish.result
    c.check_files-answer.ensures.answers c.check_files-answer.ensures.refused c.finish.ensures.answered
    c.finish.ensures.refused
