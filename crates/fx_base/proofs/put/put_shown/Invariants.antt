use Rattle.std.proofs.Common.{◌≡◌, take, false}
use Rattle.std.specs.Prelude.{map}
use Rattle.fx_base.specs.Device.{Writes}
use Rattle.fx_base.specs.Fault.{shown}
use Rattle.fx_base.proofs.put.put_shown.Given as goal

abbrev pub invariant-loop-octet : goal.invariant-loop-octet
invariant-loop-octet g l =
    record {
      taken : Writes (g.S.Sink.taken l.initial.sink) (g.S.Sink.taken l.sink) (map shown (take l.octet-index l.text));
      going : g.S.Sink.failed l.initial.sink ≡ false → g.S.Sink.failed l.sink ≡ false;
    }
