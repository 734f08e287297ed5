use Rattle.std.proofs.Common.{◌≡◌, ◌+◌, ◌-◌, ◌≤◌, ◌<◌, length}
use Rattle.fx_base.specs.Device.{IsAsked}
use Rattle.fx_base.specs.Window.{octets_of}
use Rattle.fx_base.specs.declared.part.TheConstants.{ROOM}
use Rattle.fx_base.specs.Limits.{call_limit}
use Rattle.fx_base.proofs.part.find_line.Given as goal

abbrev pub invariant-reading : goal.invariant-reading
invariant-reading g l =
    record {
      octets : octets_of l.window ≡ octets_of l.initial.window;
      room : l.window.room ≡ ROOM;
      more : length l.initial.window.held ≤ length l.window.held;
      moved : length l.initial.window.held < length l.window.held → l.initial.window.calls < l.window.calls;
      few : l.initial.window.calls < l.window.calls → l.window.calls ≤ call_limit;
      calls : l.initial.window.calls ≤ l.window.calls;
      gained : l.window.calls + length l.initial.window.held ≤ l.initial.window.calls + length l.window.held;
      asked : IsAsked l.initial.window.asked (l.window.calls - l.initial.window.calls) l.window.asked;
    }

abbrev pub decreases-reading : goal.decreases-reading
decreases-reading g l = ROOM - length l.window.held
