use Rattle.std.proofs.Common.{◌≡◌, ◌≤◌, None}
use Rattle.fx_pcap.specs.Captures.{HadAhead, frame_budget, CallsForFrames, GainsFrames}
use Rattle.fx_pcap.proofs.capture.Capture.find_frame.Given as goal

abbrev pub invariant-records : goal.invariant-records
invariant-records g l = record {
  going : l.self.stopped ≡ None;
  ahead : HadAhead l.fn.self l.self (λ a. a);
  opaque : l.fn.self.left ≡ None → l.self.left ≡ None;
  format : l.self.format ≡ l.fn.self.format;
  asks : CallsForFrames l.fn.self l.self;
  gains : GainsFrames 0 l.fn.self l.self;
  budget : frame_budget l.self ≤ frame_budget l.fn.self;
}

abbrev pub decreases-records : goal.decreases-records
decreases-records g l = frame_budget l.self
