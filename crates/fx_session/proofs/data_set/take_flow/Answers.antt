use Rattle.std.proofs.Common.{length}
use Rattle.fx_session.proofs.PlacesOfFields.{flow_record-places, places_within}
use Rattle.fx_session.proofs.data_set.take_flow.Goals as goal

pub add_at-requires : goal.add_at-requires
add_at-requires c = places_within c.args.template.now.fields c.in-Some.places.now (length c.args.octets.now)
    c.in-Some.ensures c.requires

pub returns-in-Some-clause-done : goal.returns-in-Some-clause-done
returns-in-Some-clause-done c =
    let read = flow_record-places c.args.template.now.fields c.in-Some.places.now c.args.taken.now c.args.octets.now
    c.in-Some.ensures c.requires in
    cc (read, c.in_ok-add_at.ensures.ok, c.shortest.ensures.value, c.split_at.ensures.back)
