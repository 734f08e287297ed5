use Rattle.std.proofs.Common.{◌≡◌, ◌-◌, ◌≤◌, length, take, false}
use Rattle.fx_base.specs.Device.{Writes}
use Rattle.fx_base.proofs.put.put_text.Given as goal

abbrev pub invariant-loop-done : goal.invariant-loop-done
invariant-loop-done g l =
    record {
      within : l.done ≤ length l.text;
      taken : Writes (g.S.Sink.taken l.initial.sink) (g.S.Sink.taken l.sink) (take l.done l.text);
      going : g.S.Sink.failed l.initial.sink ≡ false → g.S.Sink.failed l.sink ≡ false;
    }

abbrev pub decreases-loop-done : goal.decreases-loop-done
decreases-loop-done g l = length l.text - l.done
