use Rattle.std.proofs.Common.{◌≡◌, ◌≤◌, None, option_map}
use Rattle.fx_base.specs.Lines.{GoesOnToLines, line_budget}
use Rattle.fx_layout.specs.Keys.{Key}
use Rattle.fx_sums.proofs.Tallying.{TalliesOn}
use Rattle.fx_sums.proofs.text_lines.tally_records.Given as goal

abbrev pub invariant-loop-left : goal.invariant-loop-left
invariant-loop-left g l = record {
  going : l.lines.stopped ≡ None;
  on : GoesOnToLines l.fn.lines l.lines;
  smaller : line_budget l.lines ≤ line_budget l.fn.lines;
  same : l.totals.layout ≡ l.fn.totals.layout;
  tallies : TalliesOn l.layout l.fn.count l.fn.totals l.fn.lines l.lines l.left
      (option_map (λ (k : Key). k.values) l.last) l.totals;
}

abbrev pub decreases-loop-left : goal.decreases-loop-left
decreases-loop-left g l = l.left
