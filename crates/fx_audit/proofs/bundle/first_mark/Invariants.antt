use Rattle.std.proofs.Common.{◌≡◌, ℕ, ◌<◌, false}
use Rattle.fx_audit.specs.Bundle.{is_mark_at}
use Rattle.fx_audit.proofs.bundle.first_mark.Given as goal

abbrev pub invariant-loop-at : goal.invariant-loop-at
invariant-loop-at l = (k : ℕ) → k < l.at → is_mark_at l.bytes k ≡ false
