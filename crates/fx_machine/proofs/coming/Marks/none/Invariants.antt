use Rattle.std.proofs.Common.{◌≡◌, drop}
use Rattle.fx_machine.specs.Comings.{none_marked}
use Rattle.fx_machine.proofs.coming.Marks.none.Given as goal

abbrev pub invariant-loop-mark : goal.invariant-loop-mark
invariant-loop-mark l = none_marked l.self ≡ none_marked (drop l.mark-index l.mark-items)
