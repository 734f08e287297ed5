use Rattle.std.proofs.Common.{◌≡◌, ◌≤◌, None}
use Rattle.fx_base.specs.Lines.{GoesOnToLines, line_budget}
use Rattle.fx_sums.proofs.NotesRead.{NotesOn}
use Rattle.fx_sums.proofs.text_lines.read_notes.Given as goal

abbrev pub invariant-notes : goal.invariant-notes
invariant-notes g l = record {
  going : l.lines.stopped ≡ None;
  on : GoesOnToLines l.fn.lines l.lines;
  smaller : line_budget l.lines ≤ line_budget l.fn.lines;
  reads : NotesOn l.fn.lines l.lines l.notes;
}

abbrev pub decreases-notes : goal.decreases-notes
decreases-notes g l = line_budget l.lines
