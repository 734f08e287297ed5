use Rattle.fx_leaf.specs.Tables.{entry}
use Rattle.fx_leaf.specs.Verdicts.{destination_verdict}
use Rattle.fx_leaf.proofs.JoinedVerdicts.{OneSo}
use Rattle.fx_leaf.proofs.table.Verdicts.first_or_other_verdict.Given as goal

abbrev pub invariant-loop-other : goal.invariant-loop-other
invariant-loop-other l =
    OneSo (destination_verdict (entry l.self.rows.now) l.self.tables.now.net l.layout)
    (destination_verdict (entry l.self.rows.now) l.self.tables.now.net l.layout l.fn.first) l.joined l.others
    l.other-index
