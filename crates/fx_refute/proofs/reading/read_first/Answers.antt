use Rattle.std.proofs.Common.{arith}
use Rattle.std.proofs.Common.{rules, ◌≡◌, ◌&&◌, false, codes, inr}
use Rattle.std.specs.Str.{bytes_eq}
use Rattle.std.proofs.lemmas.Result.{err_from_is_err_and}
use Rattle.fx_run_text.proofs.RunLines.{at_line_of}
use Rattle.fx_refute.proofs.ReadingLines.{first_refused, first_wrong}
use Rattle.fx_refute.proofs.reading.read_first.Goals as goal
use Rattle.fx_refute.proofs.reading.read_first.Goals.{else-line-via-then-line+else-is_line, else-line-via-else-line, else-line-2-via-then-line-2+else-is_line-2, else-line-2-via-else-line-2}

pub returns-in_err-advance-clause-err : goal.returns-in_err-advance-clause-err
returns-in_err-advance-clause-err g c =
    let p = err_from_is_err_and c.from_residual.result c.from_residual.ensures.1 in
    rw (p.1, p.2) (first_refused c.args.lines.now c.advance.new.self _ c.in_err-advance.ensures)

pub returns-else-line-2-clause-err : goal.returns-else-line-2-clause-err
returns-else-line-2-clause-err g c =
    let new = c.advance.new.self in
    let at = at_line_of c.args.lines.now new c.in_ok-advance.field-0 c.in_ok-advance.ensures c.if-not-branch.false in
    let not_one : (new.ended && bytes_eq new.line (codes "once-refutation 1")) ≡ false = elim c.else-line.branch [
      | else-line-via-then-line+else-is_line w ↦ search rules
      | else-line-via-else-line w ↦ search rules
    ] in
    let not_two : (new.ended && bytes_eq new.line (codes "once-refutation 2")) ≡ false = elim c.else-line-2.branch [
      | else-line-2-via-then-line-2+else-is_line-2 w ↦ search rules
      | else-line-2-via-else-line-2 w ↦ search rules
    ] in
    inr (rw (c.at_line-else-line-2.ensures, c.line-line.ensures.number)
    (first_wrong c.args.lines.now new at not_one not_two))

pub returns-then-is_line-2-clause-ok : goal.returns-then-is_line-2-clause-ok
returns-then-is_line-2-clause-ok g c = first_of (grind arith, search rules)
