use Rattle.std.proofs.Common.{inr, ap, sym, ◌∙◌}
use Rattle.fx_sums.specs.SumLines.{number_behind}
use Rattle.fx_sums.proofs.Lines.{wrong_in_line}
use Rattle.fx_sums.proofs.text_lines.read_number.Goals as goal

pub returns-in-None-clause-err : goal.returns-in-None-clause-err
returns-in-None-clause-err g c =
    let none = ap (number_behind c.args.word.now) (sym c.line.ensures.bytes) ∙ sym c.read_number_line.ensures
    ∙ c.in-None.is in
    inr (rw (c.wrong_line.ensures) (wrong_in_line (number_behind c.args.word.now) c.args.lines.now c.go_on.new.lines
    c.in_ok-go_on.ensures.ok none))
