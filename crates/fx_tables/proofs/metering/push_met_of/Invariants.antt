use Rattle.std.proofs.Common.{◌≡◌, ◌++◌, take}
use Rattle.fx_tables.specs.Occurrences.{met_at}
use Rattle.fx_tables.proofs.metering.push_met_of.Given as goal

abbrev pub invariant-loop-index : goal.invariant-loop-index
invariant-loop-index l = l.found.items ≡ l.initial.found.items ++ met_at 1 (take l.index l.points) l.crossing l.fields
