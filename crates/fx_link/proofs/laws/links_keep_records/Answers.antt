use Rattle.fx_link.proofs.WireTrip.{new_in_step, putting_sends, sending_adds, carrying_takes}
use Rattle.fx_link.proofs.laws.links_keep_records.Goals as goal

pub returns-clause-begins : goal.returns-clause-begins
returns-clause-begins c = new_in_step

pub returns-clause-putting : goal.returns-clause-putting
returns-clause-putting c = putting_sends

pub returns-clause-sending : goal.returns-clause-sending
returns-clause-sending c = sending_adds

pub returns-clause-carrying : goal.returns-clause-carrying
returns-clause-carrying c = carrying_takes
