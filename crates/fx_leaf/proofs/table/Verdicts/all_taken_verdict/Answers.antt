use Rattle.std.proofs.Common.{◌<◌, arith, length}
use Rattle.fx_leaf.specs.Tables.{taken_entry}
use Rattle.fx_leaf.proofs.JoinedVerdicts.{all_at}
use Rattle.fx_leaf.proofs.table.Verdicts.all_taken_verdict.Goals as goal

pub loop-index-preserved : goal.loop-index-preserved
loop-index-preserved c =
    let end = c.len-index-end.ensures in
    let before = c.loop-index-test.true in
    let lt : c.loop-index.index < length c.args.remaining.now = omega (arith, before, end) in
    let is = c.at-aggregation.ensures.at c.at-aggregation.result.now in
    let f = taken_entry c.args.self.now.rows.now c.args.self.now.tables.now.net c.args.self.now.tables.now.numbering
    c.args.self.now.region.now c.args.layout.now in
    all_at f c.loop-index.joined c.verdict_of_both-joined.result c.taken_verdict.result c.args.remaining.now
    c.loop-index.index c.at-aggregation.result.now lt is c.taken_verdict.ensures c.verdict_of_both-joined.ensures
    c.loop-index.invariant
