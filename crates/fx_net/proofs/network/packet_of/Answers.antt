use Rattle.std.proofs.Common.{refl, arith}
use Rattle.fx_net.proofs.network.packet_of.Goals as goal

pub returns-clause-frame : goal.returns-clause-frame
returns-clause-frame c = record {
  fields = refl;
  octets = refl;
  values = c.value_at-first.ensures.kept;
  few = omega arith;
}
