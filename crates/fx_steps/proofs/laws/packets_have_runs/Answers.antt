use Rattle.fx_steps.proofs.Packets.{has_run}
use Rattle.fx_steps.proofs.laws.packets_have_runs.Goals as goal

pub returns : goal.returns
returns c net classes p fate number is small d = has_run net classes p is fate number small d
