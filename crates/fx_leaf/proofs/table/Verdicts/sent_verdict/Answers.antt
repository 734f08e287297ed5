use Rattle.std.proofs.Common.{◌∙◌}
use Rattle.fx_leaf.specs.Tables.{entry}
use Rattle.fx_leaf.proofs.JoinedVerdicts.{at_place, all_done, places_joined}
use Rattle.fx_leaf.proofs.table.Verdicts.sent_verdict.Goals as goal

pub returns : goal.returns
returns c =
    let at = entry c.args.self.now.rows.now in
    all_done (at_place at c.args.self.now.tables.now.net c.args.layout) c.loop-index.joined c.args.places.now
    c.loop-index.index-index c.loop-index-test.false c.loop-index.invariant
    ∙ places_joined at c.args.self.now.tables.now.net c.args.layout c.args.places.now
