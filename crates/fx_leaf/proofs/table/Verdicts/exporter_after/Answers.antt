use Rattle.fx_leaf.proofs.CausesFound.{sends_among}
use Rattle.fx_leaf.proofs.table.Verdicts.exporter_after.Goals as goal

pub returns-then-left-eq0 : goal.returns-then-left-eq0
returns-then-left-eq0 c =
    sends_among c.args.self.now.rows.now c.args.self.now.tables.now.net c.args.number c.args.places.now
    c.loop-index.index-index 0 c.in-Some.process c.loop-index-test.true c.in-Some.ensures
