use Rattle.std.proofs.Common.{◌≡◌, take}
use Rattle.fx_layout.proofs.key.copy_values.Given as goal

abbrev pub invariant-loop-value : goal.invariant-loop-value
invariant-loop-value l = l.into.items ≡ take l.value-index l.values
