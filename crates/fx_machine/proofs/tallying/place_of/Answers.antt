use Rattle.std.proofs.Common.{sym, ◌∙◌}
use Rattle.fx_machine.proofs.Lists.{none_more}
use Rattle.fx_machine.proofs.tallying.place_of.Goals as goal

pub loop-index-preserved : goal.loop-index-preserved
loop-index-preserved c =
    let k = c.args.key.now in
    let d = c.index-totals-index.result in
    let no = sym c.same.ensures ∙ c.if-same.false in
    none_more c.loop-index.index c.args.totals.now k d c.loop-index-test.true no c.loop-index.invariant
