use Rattle.std.proofs.Common.{inr, ap, sym, ◌∙◌}
use Rattle.std.specs.Option.{option_map}
use Rattle.fx_layout.specs.Keys.{Key}
use Rattle.fx_sums.specs.SumLines.{record_behind}
use Rattle.fx_sums.proofs.Lines.{wrong_in_line}
use Rattle.fx_sums.proofs.text_lines.read_record.Goals as goal

pub returns-in-None-clause-err : goal.returns-in-None-clause-err
returns-in-None-clause-err g c =
    let none = ap (record_behind c.args.layout.now (option_map (λ (k : Key). k.values) c.args.last.now))
    (sym c.line.ensures.bytes) ∙ sym c.read_record_behind.ensures ∙ c.in-None.is in
    inr (rw (c.wrong_line.ensures) (wrong_in_line
    (record_behind c.args.layout.now (option_map (λ (k : Key). k.values) c.args.last.now)) c.args.lines.now
    c.go_on.new.lines c.in_ok-go_on.ensures.ok none))
