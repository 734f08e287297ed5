use Rattle.std.proofs.Common.{◌≡◌, None}
use Rattle.fx_base.specs.Lines.{GoesOnToLines, line_budget}
use Rattle.fx_sums.proofs.TextsOn.{TextsOn}
use Rattle.fx_sums.proofs.sum.Sum.add_texts.Given as goal

abbrev pub invariant-texts : goal.invariant-texts
invariant-texts g l = record {
  going : l.lines.stopped ≡ None;
  on : GoesOnToLines l.fn.lines l.lines;
  reads : TextsOn l.fn.self l.fn.lines l.lines l.keys l.self;
}

abbrev pub decreases-texts : goal.decreases-texts
decreases-texts g l = line_budget l.lines
