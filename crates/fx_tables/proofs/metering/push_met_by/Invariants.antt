use Rattle.std.proofs.Common.{◌≡◌, ◌++◌, take}
use Rattle.fx_tables.specs.Occurrences.{met_by}
use Rattle.fx_tables.proofs.metering.push_met_by.Given as goal

abbrev pub invariant-loop-index : goal.invariant-loop-index
invariant-loop-index l = l.found.items ≡ l.initial.found.items ++ met_by l.point 1 (take l.index l.selections) l.fields
