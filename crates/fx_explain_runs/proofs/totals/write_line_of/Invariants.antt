use Rattle.fx_base.specs.Lines.{line_budget}
use Rattle.fx_explain_runs.proofs.totals.write_line_of.Given as goal

abbrev pub decreases-lines : goal.decreases-lines
decreases-lines l = line_budget l.lines
