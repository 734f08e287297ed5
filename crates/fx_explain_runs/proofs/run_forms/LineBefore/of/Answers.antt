use Rattle.std.proofs.Common.{arith, rules}
use Rattle.fx_explain_runs.proofs.run_forms.LineBefore.of.Goals as goal

pub returns-then-starts_with : goal.returns-then-starts_with
returns-then-starts_with c = first_of (grind arith, search rules)
