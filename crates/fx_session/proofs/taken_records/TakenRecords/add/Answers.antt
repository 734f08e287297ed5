use Rattle.std.proofs.Common.{rules, [], ◌∷◌}
use Rattle.fx_session.proofs.PlacesThatWait.{one_more_waits}
use Rattle.fx_session.proofs.taken_records.TakenRecords.add.Goals as goal

pub returns-clause-grows : goal.returns-clause-grows
returns-clause-grows c = (c.args.flow ∷ [], search (rules, one_more_waits))
