use Rattle.std.proofs.Common.{◌≡◌, map, take, false}
use Rattle.fx_base.specs.Device.{Writes}
use Rattle.fx_wire.specs.Sets.{set_parts}
use Rattle.fx_wire.specs.Writing.{sets_octets}
use Rattle.fx_wire.proofs.put.put_sets.Given as goal

abbrev pub invariant-loop-set : goal.invariant-loop-set
invariant-loop-set g l =
    record {
      taken : Writes (g.S.Sink.taken l.initial.sink) (g.S.Sink.taken l.sink)
          (sets_octets (map set_parts (take l.set-index l.sets)));
      going : g.S.Sink.failed l.initial.sink ≡ false → g.S.Sink.failed l.sink ≡ false;
    }
