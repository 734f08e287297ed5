-- What the rest of the records makes of the totals so far is what all make of those at the beginning.
use Rattle.std.proofs.Common.{◌≡◌, drop}
use Rattle.fx_collect.specs.Totals.{with_records}
use Rattle.fx_collect.proofs.totals.Totals.tally_all.Given as goal

abbrev pub invariant-loop-entry : goal.invariant-loop-entry
invariant-loop-entry l = with_records l.self (drop l.entry-index l.entries) ≡ with_records l.fn.self l.entries
