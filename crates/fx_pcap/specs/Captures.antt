-- The frames of a capture, and what a reader of them does.
use Rattle.std.specs.Prelude.{◌≡◌, ℕ, ◌+◌, ◌-◌, ◌*◌, ◌%◌, ◌^◌, ◌≤◌, ◌<◌, Bool, true, false, List, [], ◌∷◌, length, drop, Option, Some, None, IfSome, IsSome, Result, Ok, Err, ◌⊎◌}
use Rattle.fx_base.specs.declared.fault.Fault.{Fault}
use Rattle.fx_base.specs.declared.fault.Place.TheVariants as places
use Rattle.fx_base.specs.Device.{MayBeLeft, MayHaveLeft, IsAsked, IsUnread}
use Rattle.fx_base.specs.Fault.{fault_at}
use Rattle.fx_base.specs.Limits.{call_limit}
use Rattle.fx_base.specs.Refusals.{capture_cut, capture_format, failed_read, link_type, long_capture_record, want_of_memory}
use Rattle.fx_pcap.specs.declared.record.TheConstants.{ROOM}
use Rattle.fx_pcap.specs.declared.content.Content.{Content}
use Rattle.fx_pcap.specs.declared.content.Content.TheVariants.{Packet, Other, Malformed}
use Rattle.fx_pcap.specs.declared.header.Format.{Format}
use Rattle.fx_pcap.specs.declared.skipped.Skipped.{Skipped}
use Rattle.fx_pcap.specs.declared.frame.Frame.{Frame}
use Rattle.fx_pcap.specs.Records.{CapturedRecord, Records, records_of, format_of}

-- what a frame lends, and what it says about its packet
pub record Seen : Type 0 where
  -- the octets that were captured
  pub captured : List ℕ
  -- the value on each axis
  pub fields : List ℕ
  -- the number of octets of the packet
  pub octets : ℕ
  pub second : ℕ

abbrev pub seen_of : Frame → Seen
seen_of frame = record {
  captured = frame.captured.now;
  fields = frame.fields;
  octets = frame.octets;
  second =
      frame.second;
}

-- the numbers of skipped frames, one of them increased if this frame is skipped
abbrev pub skips_with : Skipped → Content → Skipped
skips_with s (Packet fields octets) = s
skips_with s Other = record s { other = (s.other + 1) % 2 ^ 64 }
skips_with s Malformed = record s { malformed = (s.malformed + 1) % 2 ^ 64 }

abbrev pub with_frame : Content → List ℕ → ℕ → Skipped → List (Seen × Skipped) → List (Seen × Skipped)
with_frame (Packet fields octets) captured second s rest =
    (record { captured = captured; fields = fields; octets = octets; second = second }, s) ∷ rest
with_frame Other captured second s rest = rest
with_frame Malformed captured second s rest = rest

-- the frames among some records, each with the numbers of frames skipped before it
abbrev pub frames_in : Skipped → List CapturedRecord → List (Seen × Skipped)
frames_in s [] = []
frames_in s (item ∷ items) = with_frame item.content item.captured item.second s
    (frames_in (skips_with s item.content) items)

-- the numbers of skipped frames after all records
abbrev pub skipped_in : Skipped → List CapturedRecord → Skipped
skipped_in s [] = s
skipped_in s (item ∷ items) = skipped_in (skips_with s item.content) items

-- What is ahead: frames, the numbers of skipped frames after the last one, and the fault at which they end, if any.
pub record FramesAhead : Type 0 where
  pub frames : List (Seen × Skipped)
  pub skipped : Skipped
  pub fault : Option Fault

abbrev pub ahead_in : Skipped → Records → FramesAhead
ahead_in s r = record { frames = frames_in s r.items; skipped = skipped_in s r.items; fault = r.fault }

-- The abstract state of a reader of a capture.
pub record CaptureState : Type 0 where
  -- the octets after the current frame, if they are known
  pub left : Option (List ℕ)
  pub format : Format
  -- the index of the first of these octets
  pub place : ℕ
  pub skipped : Skipped
  -- the current frame
  pub seen : Seen
  -- the fault that it returns from now on
  pub stopped : Option Fault
  -- whether its source's last call failed
  pub failed : Bool
  -- the number of calls of its source that it made, and of all calls made of that source, modulo 2 to the 64
  pub calls : ℕ
  pub asked : ℕ
  -- the number of octets that it holds
  pub held : ℕ

-- what is ahead of a reader that has these octets left
abbrev pub ahead_of : CaptureState → List ℕ → FramesAhead
ahead_of r octets = ahead_in r.skipped (records_of r.format r.place octets)

abbrev pub nothing_more : Skipped → Option Fault → FramesAhead
nothing_more s fault = record { frames = []; skipped = s; fault = fault }

abbrev pub with_first : Seen → Skipped → FramesAhead → FramesAhead
with_first seen s a = record a { frames = (seen, s) ∷ a.frames }

-- for every possible rest, what was ahead of octets that may have been left is `f` of what is ahead of the rest
abbrev pub HadAhead : CaptureState → CaptureState → (FramesAhead → FramesAhead) → Type 0
HadAhead old new f = (rest : List ℕ) → MayBeLeft new.left rest
    → MayHaveLeft old.left (λ octets. ahead_of old octets ≡ f (ahead_of new rest))

-- a measure that decreases with each frame
abbrev pub frame_budget : CaptureState → ℕ
frame_budget r = (call_limit - r.calls) * (ROOM + 1) + r.held

-- the number of these octets, which the reader has left, that it hasn't read yet
abbrev pub unread : CaptureState → List ℕ → ℕ
unread r octets = length octets - r.held

-- each call by the reader is a call of its source
pub record CallsForFrames (old new : CaptureState) : Type 0 where
  pub calls : old.calls ≤ new.calls
  pub asked : IsAsked old.asked (new.calls - old.calls) new.asked

-- each call returns at least one octet, except at most `n` calls, which reach the end of the capture
abbrev pub GainsFrames : ℕ → CaptureState → CaptureState → Type 0
GainsFrames n old new =
    IfSome old.left (λ octets. (rest : List ℕ) × (new.left ≡ Some rest)
    × (new.calls + unread new rest ≤ old.calls + unread old octets + n))

-- the reader advances to a frame
pub record AtFrame (old new : CaptureState) : Type 0 where
  pub going : (old.stopped ≡ None) × (new.stopped ≡ None)
  -- what was ahead is the frame, then what is ahead now
  pub frames : HadAhead old new (with_first new.seen new.skipped)
  pub opaque : old.left ≡ None → new.left ≡ None
  pub format : new.format ≡ old.format
  pub asks : CallsForFrames old new
  pub gains : GainsFrames 0 old new
  pub smaller : frame_budget new < frame_budget old

-- the reader stays at the end of the capture
pub record AtCaptureEnd (old new : CaptureState) : Type 0 where
  pub going : (old.stopped ≡ None) × (new.stopped ≡ None)
  pub frames : MayHaveLeft old.left (λ octets. ahead_of old octets ≡ nothing_more new.skipped None)
  pub rest : IfSome old.left (λ _. new.left ≡ Some [])
  pub opaque : old.left ≡ None → new.left ≡ None
  pub format : new.format ≡ old.format
  pub asks : CallsForFrames old new
  pub gains : GainsFrames 1 old new

-- the source's last call failed, or the reader used up the call limit and the source hasn't ended
abbrev pub IsCaptureCutOff : CaptureState → CaptureState → Type 0
IsCaptureCutOff old new =
    (new.failed ≡ true)
    ⊎ ((new.calls ≡ call_limit) × CallsForFrames old new
    × IfSome old.left (λ octets. call_limit ≤ old.calls + unread old octets))

-- why a reader that hadn't stopped before stops
abbrev pub StopsCapture : CaptureState → CaptureState → Fault → Type 0
StopsCapture old new e =
    ((e ≡ fault_at failed_read places.None) × IsCaptureCutOff old new)
    ⊎ (((e ≡ fault_at capture_cut (places.Octet new.place))
    ⊎ (e ≡ fault_at long_capture_record (places.Octet new.place)))
    × MayHaveLeft old.left (λ octets. ahead_of old octets ≡ nothing_more new.skipped (Some e)))

-- the reader returns a fault, and the same fault from then on
pub record RefusesCapture (old new : CaptureState) (e : Fault) : Type 0 where
  pub from_now_on : new.stopped ≡ Some e
  pub same : IsSome old.stopped → new ≡ old
  pub again : IfSome old.stopped (λ f. e ≡ f)
  pub first : old.stopped ≡ None → StopsCapture old new e

-- the faults of a reader of a capture: 901, or 703 or 704 at an octet
pub data IsCaptureFault (e : Fault) : Type 0 where
  not_read : e ≡ fault_at failed_read places.None → IsCaptureFault e
  cut_off : (octet : ℕ) → e ≡ fault_at capture_cut (places.Octet octet) → IsCaptureFault e
  too_long : (octet : ℕ) → e ≡ fault_at long_capture_record (places.Octet octet) → IsCaptureFault e

-- the effect of advancing to the next frame
abbrev pub AdvancesToFrame : CaptureState → CaptureState → Result Bool Fault → Type 0
AdvancesToFrame old new (Ok true) = AtFrame old new
AdvancesToFrame old new (Ok false) = AtCaptureEnd old new
AdvancesToFrame old new (Err e) = RefusesCapture old new e

-- what a reader in this state may return: the frame that it advances to, no frame at the end of the capture, or a fault
abbrev pub NextFrameIs : CaptureState → Result (Option Frame) Fault → Type 0
NextFrameIs old (Ok (Some frame)) = (new : CaptureState) × AtFrame old new × (seen_of frame ≡ new.seen)
NextFrameIs old (Ok None) = (new : CaptureState) × AtCaptureEnd old new
NextFrameIs old (Err e) = (new : CaptureState) × RefusesCapture old new e

-- a reader just after the file header, of a source that had these octets left and these calls made of it
pub record IsOpened (left : Option (List ℕ)) (asked : ℕ) (new : CaptureState) : Type 0 where
  -- for every possible rest after the header, the header and the rest are octets that may have been left before
  pub format : (rest : List ℕ) → MayBeLeft new.left rest
      → MayHaveLeft left (λ octets. (format_of octets ≡ Ok new.format) × (drop 24 octets ≡ rest))
  pub rest : IfSome left (λ octets. new.left ≡ Some (drop 24 octets))
  pub opaque : left ≡ None → new.left ≡ None
  pub place : new.place ≡ 24
  pub skipped : new.skipped ≡ record { other = 0; malformed = 0 }
  pub going : new.stopped ≡ None
  pub asks : IsAsked asked new.calls new.asked
  -- each call returned at least one octet
  pub gains : IfSome left (λ octets. new.calls + unread new (drop 24 octets) ≤ length octets)

-- a source with these octets left and these calls made of it can't be read to its end, as its last state shows
abbrev pub IsUnreadable : {R : Type 0} → (R → ℕ) → (R → Bool) → Option (List ℕ) → ℕ → Type 0
IsUnreadable {R} calls failed left asked = (last : R) × IsUnread left asked (calls last) (failed last)

-- why a capture isn't opened: out of memory, a source that can't be read, or its file header
abbrev pub IsRefusedCapture : Option (List ℕ) → Type 0 → Fault → Type 0
IsRefusedCapture left unread e =
    (e ≡ fault_at want_of_memory places.None)
    ⊎ (((e ≡ fault_at failed_read places.None) × unread)
    ⊎ (((e ≡ fault_at capture_format (places.Octet 0)) ⊎ (e ≡ fault_at link_type places.None))
    × MayHaveLeft left (λ octets. format_of octets ≡ Err e)))
