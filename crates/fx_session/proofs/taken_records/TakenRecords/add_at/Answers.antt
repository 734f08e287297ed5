use Rattle.std.proofs.Common.{rules, [], ◌∷◌}
use Rattle.fx_session.specs.Places.{record_by}
use Rattle.fx_session.proofs.PlacesThatWait.{one_more_waits}
use Rattle.fx_session.proofs.taken_records.TakenRecords.add_at.Goals as goal

pub returns-clause-grows : goal.returns-clause-grows
returns-clause-grows c = (record_by c.args.places.now c.args.octets.now ∷ [], search (rules, one_more_waits))
