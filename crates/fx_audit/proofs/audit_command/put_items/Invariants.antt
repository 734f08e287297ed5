use Rattle.std.proofs.Common.{◌≡◌, take, false}
use Rattle.fx_base.specs.Device.{Writes}
use Rattle.fx_search.specs.Found.{certificate_text}
use Rattle.fx_audit.proofs.audit_command.put_items.Given as goal

abbrev pub invariant-loop-item : goal.invariant-loop-item
invariant-loop-item g l = record {
  taken : Writes (g.S.Sink.taken l.initial.sink) (g.S.Sink.taken l.sink) (certificate_text (take l.item-index l.items));
  going : g.S.Sink.failed l.initial.sink ≡ false → g.S.Sink.failed l.sink ≡ false;
}
