use Rattle.fx_walk.proofs.required_list.required_entries.Goals as goal

pub returns-in-Some : goal.returns-in-Some
returns-in-Some g c = rw (← c.in-Some.ensures) (rw (← c.in-Some.ensures) at c.entries_member.ensures)

pub returns-in-None : goal.returns-in-None
returns-in-None g c = rw (← c.in-None.ensures) c.refusal.ensures
