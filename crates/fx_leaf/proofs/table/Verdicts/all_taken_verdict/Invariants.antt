use Rattle.fx_leaf.specs.Tables.{taken_entry}
use Rattle.fx_leaf.proofs.JoinedVerdicts.{So}
use Rattle.fx_leaf.proofs.table.Verdicts.all_taken_verdict.Given as goal

abbrev pub invariant-loop-index : goal.invariant-loop-index
invariant-loop-index l =
    So (taken_entry l.self.rows.now l.self.tables.now.net l.self.tables.now.numbering l.self.region.now l.layout)
    l.joined l.remaining l.index
