use Rattle.std.proofs.Common.{length}
use Rattle.fx_explain_runs.proofs.line_forms.fit_choices.Given as goal

abbrev pub decreases-words : goal.decreases-words
decreases-words l = length l.left
