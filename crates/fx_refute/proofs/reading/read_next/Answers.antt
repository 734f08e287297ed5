use Rattle.std.proofs.Common.{arith}
use Rattle.std.proofs.Common.{rules, ◌≡◌, Err, inr}
use Rattle.std.proofs.lemmas.Result.{err_from_is_err_and}
use Rattle.fx_run_text.proofs.RunLines.{at_line_of}
use Rattle.fx_refute.specs.RefutationReading.{line_said}
use Rattle.fx_refute.proofs.ReadingLines.{next_refused, says_nothing}
use Rattle.fx_refute.proofs.reading.read_next.Goals as goal

pub returns-in_err-advance-clause-err : goal.returns-in_err-advance-clause-err
returns-in_err-advance-clause-err g c =
    let p = err_from_is_err_and c.from_residual.result c.from_residual.ensures.1 in
    rw (p.1, p.2) (inr (next_refused c.args.version c.args.lines.now c.advance.new.self _ c.in_err-advance.ensures))

pub returns-then-not-line-clause-err : goal.returns-then-not-line-clause-err
returns-then-not-line-clause-err g c =
    let new = c.advance.new.self in
    let at = at_line_of c.args.lines.now new c.in_ok-advance.field-0 c.in_ok-advance.ensures c.if-not-branch.false in
    let wrong : line_said c.args.version (new.line, new.ended) ≡ Err 501 = search rules in
    inr (inr (rw (c.at_line-then-not-line.ensures, c.line-line.ensures.number)
    (says_nothing c.args.version c.args.lines.now new 501 at wrong)))

pub returns-in-None-clause-err : goal.returns-in-None-clause-err
returns-in-None-clause-err g c =
    let new = c.advance.new.self in
    let at = at_line_of c.args.lines.now new c.in_ok-advance.field-0 c.in_ok-advance.ensures c.if-not-branch.false in
    let wrong : line_said c.args.version (new.line, new.ended) ≡ Err 501 = search rules in
    inr (inr (rw (c.at_line-in-None.ensures, c.line-line.ensures.number)
    (says_nothing c.args.version c.args.lines.now new 501 at wrong)))

pub returns-then-not-branch-clause-err : goal.returns-then-not-branch-clause-err
returns-then-not-branch-clause-err g c = first_of (grind arith, search rules)
