use Rattle.std.proofs.Common.{arith, rules}
use Rattle.fx_elements.proofs.axis.Axis.index.Goals as goal

pub returns-in-Source6-clause-place : goal.returns-in-Source6-clause-place
returns-in-Source6-clause-place c = first_of (grind arith, search rules)

pub returns-in-SourcePort-clause-place : goal.returns-in-SourcePort-clause-place
returns-in-SourcePort-clause-place c = first_of (grind arith, search rules)
