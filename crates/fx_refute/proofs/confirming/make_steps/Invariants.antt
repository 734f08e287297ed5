use Rattle.std.proofs.Common.{◌≤◌, length}
use Rattle.fx_machine.specs.Limits.{step_limit}
use Rattle.fx_refute.proofs.StepsMade.{Made}
use Rattle.fx_refute.proofs.confirming.make_steps.Given as goal

-- the steps so far are made
abbrev pub invariant-loop-index : goal.invariant-loop-index
invariant-loop-index l = record {
  made : Made l.initial.state l.state l.steps l.index;
  few : length l.steps ≤ step_limit;
}
