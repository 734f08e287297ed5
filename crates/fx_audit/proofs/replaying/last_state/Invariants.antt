-- Some steps were read and made, and the next is read.
use Rattle.std.proofs.Common.{◌≡◌, None, IfSome}
use Rattle.fx_base.specs.Lines.{GoesOnToLines}
use Rattle.fx_run_text.proofs.RunSteps.{steps_budget}
use Rattle.fx_audit.proofs.Replays.{IsUnderWay}
use Rattle.fx_audit.proofs.replaying.last_state.Given as goal

abbrev pub invariant-steps : goal.invariant-steps
invariant-steps g l = record {
  net : l.state.net ≡ l.net;
  classes : l.state.classes ≡ l.classes;
  going : IfSome l.next (λ _. l.lines.stopped ≡ None);
  on : IfSome l.next (λ _. GoesOnToLines l.fn.lines l.lines);
  made : IsUnderWay l.net l.classes l.fn.lines l.version l.state.packets l.lines l.next l.state.state l.refused;
}

abbrev pub decreases-steps : goal.decreases-steps
decreases-steps g l = steps_budget l.next l.lines
