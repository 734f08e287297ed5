use Rattle.std.proofs.Common.{sym, subst}
use Rattle.fx_checker.specs.Outputs.{AnswersWith}
use Rattle.fx_command_line.specs.declared.words.Call.{Call}
use Rattle.fx_cli.specs.Running.{IsCallText}
use Rattle.fx_cli.proofs.commands.answer_call.Goals as goal

pub returns-in-Run-clause-answers : goal.returns-in-Run-clause-answers
returns-in-Run-clause-answers g c =
    subst (λ (call : Call). AnswersWith g.S.Sink.taken g.S.Sink.failed (IsCallText call) c.args.sink.now
    c.run_capture.new.sink c.run_capture.result) (sym c.in-Run.is) c.run_capture.ensures.answers
