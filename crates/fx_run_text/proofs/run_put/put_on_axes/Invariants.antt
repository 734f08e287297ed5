use Rattle.std.proofs.Common.{◌≡◌, take, false}
use Rattle.std.specs.Prelude.{map}
use Rattle.fx_base.specs.Device.{Writes}
use Rattle.fx_elements.specs.Axes.{field}
use Rattle.fx_elements.specs.Values.{value_text}
use Rattle.fx_run_text.specs.RunLineText.{spaced_words}
use Rattle.fx_run_text.proofs.run_put.put_on_axes.Given as goal

abbrev pub invariant-loop-axis : goal.invariant-loop-axis
invariant-loop-axis g l = record {
  taken : Writes (g.S.Sink.taken l.initial.sink) (g.S.Sink.taken l.sink)
      (spaced_words (map (λ axis. value_text axis (field l.fields axis)) (take l.axis-index l.axes)));
  going : g.S.Sink.failed l.initial.sink ≡ false → g.S.Sink.failed l.sink ≡ false;
}
