use Rattle.fx_leaf.specs.Tables.{entry}
use Rattle.fx_leaf.proofs.JoinedVerdicts.{at_place, places_joined}
use Rattle.std.proofs.Common.{◌∙◌}
use Rattle.fx_leaf.proofs.CausesFound.{still_done, sends_among}
use Rattle.fx_leaf.proofs.table.Verdicts.cause_by_exporters.Goals as goal

pub returns-in-Some-clause-some : goal.returns-in-Some-clause-some
returns-in-Some-clause-some c =
    sends_among c.args.self.now.rows.now c.args.self.now.tables.now.net c.args.number c.args.places.now
    c.loop-index.index-index 0 c.in-Some.process c.loop-index-test.true c.in-Some.ensures.some

pub returns-clause-none : goal.returns-clause-none
returns-clause-none c = λ h.
    still_done (at_place (entry c.args.self.now.rows.now) c.args.self.now.tables.now.net c.args.number)
    c.args.places.now c.loop-index.index-index c.loop-index-test.false c.loop-index.invariant
    (places_joined (entry c.args.self.now.rows.now) c.args.self.now.tables.now.net c.args.number c.args.places.now
    ∙ h)
