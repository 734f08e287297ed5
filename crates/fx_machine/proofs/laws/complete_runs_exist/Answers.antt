use Rattle.fx_machine.proofs.CompleteRuns as completing
use Rattle.fx_machine.proofs.laws.complete_runs_exist.Goals as goal

pub returns : goal.returns
returns c = record { exist = completing.complete_runs_exist }
