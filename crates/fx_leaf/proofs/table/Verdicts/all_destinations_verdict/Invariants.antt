use Rattle.fx_leaf.specs.Tables.{entry}
use Rattle.fx_leaf.specs.Verdicts.{destination_verdict}
use Rattle.fx_leaf.proofs.JoinedVerdicts.{So}
use Rattle.fx_leaf.proofs.table.Verdicts.all_destinations_verdict.Given as goal

abbrev pub invariant-loop-destination : goal.invariant-loop-destination
invariant-loop-destination l = So (destination_verdict (entry l.self.rows.now) l.self.tables.now.net l.layout) l.joined
    l.destinations l.destination-index
