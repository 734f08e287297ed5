use Rattle.std.proofs.Common.{◌≡◌, sym, ap, ◌∙◌}
use Rattle.std.proofs.lemmas.List.Splits.{join_with_byte-slice_split}
use Rattle.fx_run_text.specs.declared.run_line.RunLine.{RunLine}
use Rattle.fx_run_text.specs.declared.run_line.RunLine.TheVariants as line
use Rattle.fx_run_text.specs.declared.text_version.TextVersion.{TextVersion}
use Rattle.fx_run_text.specs.RunLineText.{IsRunLine, line_words}
use Rattle.fx_elements.specs.Words.{Words, words}
use Rattle.fx_run_text.proofs.RunTexts.{LineIs, line_found, line_join, line_said, plain_words, text_is, text_of_lines, text_of_words}
use Rattle.fx_run_text.proofs.laws.run_lines_have_one_text.Goals as goal

found : (version : TextVersion) (x : RunLine) (ws : Words) → LineIs version x ws → (ws ≡ line_words version x)
    × IsRunLine version x
found version (line.Packet p) ws h = (h.0, (h.1, h.2))
found version (line.Step s) ws h = h
found version line.End ws h = (h, tt)

pub returns-clause-read : goal.returns-clause-read
returns-clause-read c version x is = line_said version x is

pub returns-clause-only : goal.returns-clause-only
returns-clause-only c version line x is =
    let f = found version x (words line) (line_found version (words line) x is) in
    (sym (join_with_byte-slice_split 32 line) ∙ ap (λ (ws : Words). text_of_words ws) f.0, f.1)

pub returns-clause-one_line : goal.returns-clause-one_line
returns-clause-one_line c version x is = line_join (line_words version x) (plain_words version x is)

pub returns-clause-lines : goal.returns-clause-lines
returns-clause-lines c = text_of_lines

pub returns-clause-text : goal.returns-clause-text
returns-clause-text c = text_is
