use Rattle.std.proofs.Common.{◌≡◌, ◌-◌, ◌≤◌, length}
use Rattle.std.specs.Io.KnownBytes.{prepend_known}
use Rattle.fx_base.specs.Device.{IsAsked}
use Rattle.fx_base.specs.Limits.{call_limit}
use Rattle.fx_base.proofs.whole.read_whole.Given as goal

abbrev pub invariant-pieces : goal.invariant-pieces
invariant-pieces g l =
    record {
      text : prepend_known l.octets.items (g.R.Source.left l.source) ≡ g.R.Source.left l.initial.source;
      count : l.pieces.calls ≤ length l.octets.items;
      few : l.pieces.calls ≤ call_limit;
      asked : IsAsked (g.R.Source.calls l.initial.source) l.pieces.calls (g.R.Source.calls l.source);
    }

abbrev pub decreases-pieces : goal.decreases-pieces
decreases-pieces g l = call_limit - l.pieces.calls
