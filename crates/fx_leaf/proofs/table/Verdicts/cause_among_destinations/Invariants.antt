use Rattle.fx_leaf.specs.Tables.{entry}
use Rattle.fx_leaf.specs.Verdicts.{destination_verdict}
use Rattle.fx_leaf.proofs.CausesFound.{Still}
use Rattle.fx_leaf.proofs.table.Verdicts.cause_among_destinations.Given as goal

abbrev pub invariant-loop-destination : goal.invariant-loop-destination
invariant-loop-destination l = Still (destination_verdict (entry l.self.rows.now) l.self.tables.now.net l.number)
    l.destinations l.destination-index
