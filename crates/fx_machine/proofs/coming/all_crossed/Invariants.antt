use Rattle.std.proofs.Common.{◌≡◌, drop}
use Rattle.fx_machine.specs.Comings.{all_crossed}
use Rattle.fx_machine.proofs.coming.all_crossed.Given as goal

abbrev pub invariant-loop-marks : goal.invariant-loop-marks
invariant-loop-marks l = all_crossed l.to_come ≡ all_crossed (drop l.marks-index l.to_come)
