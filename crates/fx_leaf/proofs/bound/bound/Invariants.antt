use Rattle.std.proofs.Common.{ℕ, ◌<◌, get_or}
use Rattle.fx_elements.specs.declared.axis.Axis.TheVariants.{Source}
use Rattle.fx_elements.specs.Axes.{axes}
use Rattle.fx_leaf.specs.Splits.{NoSplitBy}
use Rattle.fx_leaf.proofs.bound.bound.Given as goal

abbrev pub invariant-loop-axis : goal.invariant-loop-axis
invariant-loop-axis l = (k : ℕ) → k < l.axis-index → NoSplitBy l.region l.other (get_or axes k Source)
