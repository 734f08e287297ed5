use Rattle.std.proofs.Common.{◌≡◌, None, IfSome}
use Rattle.fx_base.specs.Lines.{GoesOnToLines}
use Rattle.fx_run_text.specs.RunReading.{ReadsUpTo}
use Rattle.fx_run_text.proofs.RunSteps.{steps_budget}
use Rattle.fx_run_text.proofs.run_reading.read_run.Given as goal

abbrev pub invariant-steps : goal.invariant-steps
invariant-steps g l = record {
  going : IfSome l.next (λ _. l.lines.stopped ≡ None);
  on : IfSome l.next (λ _. GoesOnToLines l.fn.lines l.lines);
  reads : ReadsUpTo l.version l.classes l.fn.lines l.lines l.run l.next;
}

abbrev pub decreases-steps : goal.decreases-steps
decreases-steps g l = steps_budget l.next l.lines
