use Rattle.std.proofs.Common.{◌≡◌, ◌++◌, drop}
use Rattle.fx_tables.specs.Network.{at_places}
use Rattle.fx_plan.proofs.cycle.numbers_at.Given as goal

abbrev pub invariant-loop-index : goal.invariant-loop-index
invariant-loop-index l = l.found.items ++ at_places l.numbers (drop l.index-index l.places)
    ≡ at_places l.numbers l.places
