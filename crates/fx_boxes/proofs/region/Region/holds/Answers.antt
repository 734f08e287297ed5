use Rattle.fx_boxes.proofs.Holding.{fields_read}
use Rattle.fx_boxes.proofs.region.Region.holds.Goals as goal

pub returns-clause-test : goal.returns-clause-test
returns-clause-test c = fields_read _ _ _ c.has.ensures
