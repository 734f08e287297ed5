use Rattle.std.proofs.Common.{inr, sym, ◌∙◌}
use Rattle.std.proofs.lemmas.Result.{err_from_is_err_and}
use Rattle.fx_sums.proofs.Lines.{at_line_of, stops_at, unended}
use Rattle.fx_sums.proofs.text_lines.go_on_or_end.Goals as goal

pub returns-in_err-advance : goal.returns-in_err-advance
returns-in_err-advance g c =
    let p = err_from_is_err_and c.from_residual.result c.from_residual.ensures.1 in
    rw (p.1, p.2) (stops_at c.args.lines.now c.advance.new.self _ c.in_err-advance.ensures)

pub returns-then-not-line : goal.returns-then-not-line
returns-then-not-line g c =
    let new = c.advance.new.self in
    let at = at_line_of c.args.lines.now new c.in_ok-advance.field-0 c.in_ok-advance.ensures c.if-not-branch.false in
    inr (rw (c.at_line.ensures, c.line-line.ensures.number)
    (unended c.args.lines.now new at (sym c.line-line.ensures.ended ∙ c.if-not-line.true)))
