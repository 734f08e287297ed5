use Rattle.std.proofs.Common.{inr}
use Rattle.std.proofs.lemmas.Result.{err_from_is_err_and}
use Rattle.fx_run_text.proofs.RunLines.{at_line_of, end_refused, ends_late}
use Rattle.fx_run_text.proofs.run_reading.read_end.Goals as goal

pub returns-in_err-advance-clause-err : goal.returns-in_err-advance-clause-err
returns-in_err-advance-clause-err g c =
    let p = err_from_is_err_and c.from_residual.result c.from_residual.ensures.1 in
    rw (p.1, p.2) (end_refused c.args.lines.now c.advance.new.self _ c.in_err-advance.ensures)

pub returns-then-branch-clause-err : goal.returns-then-branch-clause-err
returns-then-branch-clause-err g c =
    let at = at_line_of c.args.lines.now c.advance.new.self c.in_ok-advance.field-0 c.in_ok-advance.ensures
    c.if-branch.true in
    inr (λ run. rw (c.at_line.ensures, c.number.ensures) (ends_late c.args.lines.now c.advance.new.self run at))
