use Rattle.std.proofs.lemmas.Result.{err_from_is_err_and}
use Rattle.fx_checker.proofs.Checks.{certificate_answered, certificate_refused, passed_unanswered, from_write}
use Rattle.fx_checker.proofs.check_command.check_lines.Goals as goal

pub returns-in_err-put_text-in-Ok-clause-numbers : goal.returns-in_err-put_text-in-Ok-clause-numbers
returns-in_err-put_text-in-Ok-clause-numbers g c =
    let p = err_from_is_err_and c.from_residual.result c.from_residual.ensures.1 in
    rw (p.1, p.2) (from_write c.args.certificate.now _ c.in_err-put_text-in-Ok.ensures.err.0)

pub returns-in-Err-clause-answers : goal.returns-in-Err-clause-answers
returns-in-Err-clause-answers g c = (
  certificate_answered c.args.documents.now.plan c.args.documents.now.traffic c.args.certificate.now
      c.check_watched.new.lines c.in-Err.fault _ _ c.answer_refusal.result c.in-Err.ensures.err
      c.in-Err.ensures.numbers c.answer_refusal.ensures.ok,
  c.answer_refusal.ensures.quiet,
)

pub returns-in-Err-clause-err : goal.returns-in-Err-clause-err
returns-in-Err-clause-err g c =
    certificate_refused c.args.documents.now.plan c.args.documents.now.traffic c.args.certificate.now
    c.check_watched.new.lines c.in-Err.fault _ c.answer_refusal.result c.in-Err.ensures.err
    c.answer_refusal.ensures.err

pub returns-in-Err-clause-numbers : goal.returns-in-Err-clause-numbers
returns-in-Err-clause-numbers g c =
    passed_unanswered c.args.certificate.now c.in-Err.fault _ c.answer_refusal.result c.in-Err.ensures.numbers
    c.answer_refusal.ensures.err
