use Rattle.fx_walk.proofs.Faults.{pointer-Member}
use Rattle.fx_topology.proofs.report.report_member.Goals as goal

pub returns-in-Some : goal.returns-in-Some
returns-in-Some c = rw (← c.in-Some.ensures) (rw pointer-Member at c.report_at.ensures)

pub returns-in-None : goal.returns-in-None
returns-in-None c = rw (← c.in-None.ensures) c.refusal.ensures
