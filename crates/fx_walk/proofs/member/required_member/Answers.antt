use Rattle.fx_walk.proofs.Faults.{pointer-Member}
use Rattle.fx_walk.proofs.member.required_member.Goals as goal

pub returns-in-Some : goal.returns-in-Some
returns-in-Some g c = rw (← c.in-Some.ensures) (rw pointer-Member at c.from_value.ensures)

pub returns-in-None : goal.returns-in-None
returns-in-None g c = rw (← c.in-None.ensures) c.refusal.ensures
