use Rattle.std.proofs.Common.{arith, rules}
use Rattle.std.proofs.Common.{inr, ap, sym, ◌∙◌}
use Rattle.fx_sums.specs.SumLines.{line_behind}
use Rattle.fx_sums.proofs.NotesRead.{goes_on_of, notes_wrong}
use Rattle.fx_sums.proofs.text_lines.read_notes.Goals as goal

pub returns-in-None-clause-err : goal.returns-in-None-clause-err
returns-in-None-clause-err g c =
    let now = c.notes.lines in
    let new = c.go_on_or_end.new.lines in
    let line = goes_on_of now new c.in_ok-go_on_or_end.field-0 c.in_ok-go_on_or_end.ensures c.if-not-branch.false in
    let none = ap (line_behind c.notes.notes) (sym c.line.ensures.bytes) ∙ sym c.read_line_behind.ensures ∙ c.in-None.is
    in
    inr (rw (c.wrong_line.ensures) (notes_wrong c.args.lines.now now c.notes.notes c.notes.invariant.reads new line
    none))

pub notes-preserved : goal.notes-preserved
notes-preserved g c = first_of (grind arith, search rules)
