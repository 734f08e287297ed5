use Rattle.fx_machine.specs.Places.{NoneBefore}
use Rattle.fx_machine.proofs.tallying.place_of.Given as goal

abbrev pub invariant-loop-index : goal.invariant-loop-index
invariant-loop-index l = NoneBefore l.index l.totals l.key
