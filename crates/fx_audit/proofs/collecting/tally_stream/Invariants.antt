-- Some octets of the stream were read, at least one a call, and their records were tallied.
use Rattle.std.proofs.Common.{◌-◌, ◌≤◌}
use Rattle.fx_base.specs.Device.{IsAsked}
use Rattle.fx_base.specs.Limits.{call_limit}
use Rattle.fx_audit.proofs.Streams.{IsReadOn}
use Rattle.fx_audit.proofs.collecting.tally_stream.Given as goal

abbrev pub invariant-pieces : goal.invariant-pieces
invariant-pieces g l = record {
  read : IsReadOn (g.R.Source.left l.initial.stream) (g.R.Source.left l.stream) l.initial.totals l.session l.totals
      l.pieces.calls;
  few : l.pieces.calls ≤ call_limit;
  asked : IsAsked (g.R.Source.calls l.initial.stream) l.pieces.calls (g.R.Source.calls l.stream);
}

abbrev pub decreases-pieces : goal.decreases-pieces
decreases-pieces g l = call_limit - l.pieces.calls
