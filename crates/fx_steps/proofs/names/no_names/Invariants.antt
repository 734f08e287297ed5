use Rattle.std.proofs.Common.{◌≡◌, length}
use Rattle.fx_steps.proofs.names.no_names.Given as goal

abbrev pub invariant-loop-holder : goal.invariant-loop-holder
invariant-loop-holder l = length l.names.items ≡ l._holder
