use Rattle.fx_walk.proofs.Faults.{pointer-Member}
use Rattle.fx_traffic.proofs.class.paths_member.Goals as goal

pub returns-in-Some : goal.returns-in-Some
returns-in-Some g c = rw (← c.in-Some.ensures) (rw pointer-Member at c.read_paths.ensures)
