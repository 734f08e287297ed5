use Rattle.std.proofs.Common.{◌≡◌, take, false}
use Rattle.fx_base.specs.Device.{Writes}
use Rattle.fx_refute.specs.RefutationText.{steps_text}
use Rattle.fx_refute.proofs.put.put_steps.Given as goal

abbrev pub invariant-loop-step : goal.invariant-loop-step
invariant-loop-step g l = record {
  taken : Writes (g.S.Sink.taken l.initial.sink) (g.S.Sink.taken l.sink) (steps_text (take l.step-index l.steps));
  going : g.S.Sink.failed l.initial.sink ≡ false → g.S.Sink.failed l.sink ≡ false;
}
