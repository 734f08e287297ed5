use Rattle.fx_checker.specs.Ending.{EndsWith}
use Rattle.std.proofs.Common.{string_bytes}
use Rattle.std.specs.IoError.{error_kind}
use Rattle.fx_cli.specs.Arguments.{EndsByGivenArguments}
use Rattle.fx_cli.proofs.AnswersGiven.{if_err_handed, if_ok_handed}
use Rattle.fx_cli.proofs.running.answer.Goals as goal
use Rattle.fx_checker.specs.Arguments.{unread_status, unread_text}

pub returns-clause-given : goal.returns-clause-given
returns-clause-given g c =
    if_ok_handed g.S.Sink.taken g.S.Sink.failed g.S.Sink.holds_back
    (λ given then code. EndsByGivenArguments string_bytes g.S.Sink.taken g.S.Sink.failed c.args.on_terminal given.items
    c.args.sink.now then code)
    c.args.arguments c.answer_system_arguments-code.new.sink c.flush.new.sink c.answer_system_arguments-code.result
    c.flush.result c.answer_system_arguments-code.ensures.given c.flush.ensures

pub returns-clause-unread : goal.returns-clause-unread
returns-clause-unread g c =
    if_err_handed g.S.Sink.taken g.S.Sink.failed g.S.Sink.holds_back
    (λ e then code. EndsWith g.S.Sink.taken g.S.Sink.failed (unread_text (error_kind e)) (unread_status (error_kind e))
    c.args.sink.now then code)
    c.args.arguments c.answer_system_arguments-code.new.sink c.flush.new.sink c.answer_system_arguments-code.result
    c.flush.result c.answer_system_arguments-code.ensures.unread c.flush.ensures
