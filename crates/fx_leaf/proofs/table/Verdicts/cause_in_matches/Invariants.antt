use Rattle.fx_leaf.specs.Tables.{taken_entry}
use Rattle.fx_leaf.proofs.CausesFound.{Still}
use Rattle.fx_leaf.proofs.table.Verdicts.cause_in_matches.Given as goal

abbrev pub invariant-loop-index : goal.invariant-loop-index
invariant-loop-index l =
    Still (taken_entry l.self.rows.now l.self.tables.now.net l.self.tables.now.numbering l.self.region.now l.layout)
    l.remaining l.index
