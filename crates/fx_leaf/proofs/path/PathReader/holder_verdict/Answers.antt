use Rattle.std.proofs.Common.{◌∙◌}
use Rattle.fx_leaf.specs.Tables as by_table
use Rattle.fx_leaf.proofs.RowsAreVerdicts.{holder_same}
use Rattle.fx_leaf.proofs.path.PathReader.holder_verdict.Goals as goal

pub returns : goal.returns
returns c =
    let reader = c.args.self.now in
    let t = reader.verdicts.tables.now in
    let are = c.requires.tables in
    c.holder_verdict.ensures ∙ holder_same t.net t.numbering reader.verdicts.region.now are.network.ranked are.numbers
    are.reports reader.verdicts.rows.now reader.filled.size c.args.holder
    (λ q. λ f. reader.filled.verdicts q (by_table.number_of_layout t.numbering c.args.holder)
    (c.requires.along q f))
