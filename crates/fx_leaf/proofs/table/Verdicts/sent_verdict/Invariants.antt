use Rattle.fx_leaf.specs.Tables.{entry}
use Rattle.fx_leaf.proofs.JoinedVerdicts.{So, at_place}
use Rattle.fx_leaf.proofs.table.Verdicts.sent_verdict.Given as goal

abbrev pub invariant-loop-index : goal.invariant-loop-index
invariant-loop-index l = So (at_place (entry l.self.rows.now) l.self.tables.now.net l.layout) l.joined l.places
    l.index-index
