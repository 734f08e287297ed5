use Rattle.std.proofs.Common.{ℕ, suc, ◌<◌}
use Rattle.fx_elements.proofs.ZeroCuts.{NotTwo}
use Rattle.fx_elements.proofs.address6.cut_zeros.Given as goal

abbrev pub invariant-loop-i : goal.invariant-loop-i
invariant-loop-i l = (k : ℕ) → suc k < l.i → NotTwo l.text k
