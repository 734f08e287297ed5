use Rattle.std.proofs.Common.{◌≡◌, ◌<◌, None, arith, length, subst, sym}
use Rattle.fx_tables.specs.Network.{AggregationEntry}
use Rattle.fx_leaf.specs.Tables.{taken_entry}
use Rattle.fx_leaf.proofs.CausesFound.{still_more}
use Rattle.fx_leaf.proofs.table.Verdicts.cause_in_matches.Goals as goal

pub loop-index-preserved : goal.loop-index-preserved
loop-index-preserved c =
    let end = c.len-index-end.ensures in
    let before = c.loop-index-test.true in
    let lt : c.loop-index.index < length c.args.remaining.now = omega (arith, before, end) in
    let is = c.at-aggregation.ensures.at c.at-aggregation.result.now in
    let f = taken_entry c.args.self.now.rows.now c.args.self.now.tables.now.net c.args.self.now.tables.now.numbering
    c.args.self.now.region.now c.args.layout.now in
    let a = c.at-aggregation.result.now in
    still_more f c.args.remaining.now c.loop-index.index a lt
    (subst (λ (x : AggregationEntry). f x ≡ None → ⊥) is c.in_default.ensures.none) c.loop-index.invariant

pub returns-in-Some-clause-some : goal.returns-in-Some-clause-some
returns-in-Some-clause-some c =
    let end = c.len-index-end.ensures in
    let before = c.loop-index-test.true in
    let lt : c.loop-index.index < length c.args.remaining.now = omega (arith, before, end) in
    let a = c.at-aggregation.result.now in
    record {
      aggregation = a;
      among = (c.loop-index.index, lt, sym (c.at-aggregation.ensures.at a));
      is_cause =
          c.in-Some.ensures.some;
    }
