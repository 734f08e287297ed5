use Rattle.fx_leaf.specs.Tables.{entry}
use Rattle.fx_leaf.proofs.JoinedVerdicts.{at_place}
use Rattle.fx_leaf.proofs.CausesFound.{Still}
use Rattle.fx_leaf.proofs.table.Verdicts.cause_by_exporters.Given as goal

abbrev pub invariant-loop-index : goal.invariant-loop-index
invariant-loop-index l = Still (at_place (entry l.self.rows.now) l.self.tables.now.net l.number) l.places l.index-index
