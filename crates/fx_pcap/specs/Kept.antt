-- A reader of a capture in terms of the state that it keeps.
use Rattle.std.specs.Prelude.{◌≡◌, ℕ, ◌-◌, ◌≤◌, ◌<◌, Bool, true, false, List, length, drop, min, Option, None, slice_range, Result, Ok, Err}
use Rattle.std.specs.Option.{option_map}
use Rattle.std.specs.Io.KnownBytes.{prepend_known}
use Rattle.fx_base.specs.declared.fault.Fault.{Fault}
use Rattle.fx_base.specs.declared.fault.Place.TheVariants as places
use Rattle.fx_base.specs.Fault.{fault_at}
use Rattle.fx_pcap.specs.declared.header.Format.{Format}
use Rattle.fx_pcap.specs.declared.skipped.Skipped.{Skipped}
use Rattle.fx_pcap.specs.declared.stop.CaptureStop.{CaptureStop}
use Rattle.fx_pcap.specs.declared.stop.CaptureStop.TheVariants.{Device, Cut, TooLong}
use Rattle.fx_pcap.specs.declared.capture.RecordKind.{RecordKind}
use Rattle.fx_pcap.specs.declared.capture.RecordKind.TheVariants as taken
use Rattle.fx_pcap.specs.Captures.{CaptureState, HadAhead, frame_budget, CallsForFrames, GainsFrames, StopsCapture, AtFrame, AtCaptureEnd}
use Rattle.fx_base.specs.Window.{Held}
use Rattle.fx_base.specs.Refusals.{capture_cut, failed_read, long_capture_record}
use Rattle.fx_pcap.specs.declared.record.TheConstants.{ROOM}

pub record KeptRecord : Type 0 where
  pub format : Format
  pub place : ℕ
  pub taken : ℕ
  pub skipped : Skipped
  pub fields : List ℕ
  pub octets : ℕ
  pub second : ℕ
  pub stopped : Option CaptureStop

abbrev pub fault_of : ℕ → CaptureStop → Fault
fault_of place Device = fault_at failed_read places.None
fault_of place Cut = fault_at capture_cut (places.Octet place)
fault_of place TooLong = fault_at long_capture_record (places.Octet place)

abbrev pub reading_of : Held → KeptRecord → CaptureState
reading_of w k =
    record {
      left = prepend_known (drop k.taken w.held) w.left;
      format = k.format;
      place = k.place;
      skipped = k.skipped;
      seen = record {
        captured = slice_range w.held (min 16 k.taken) k.taken;
        fields = k.fields;
        octets =
            k.octets;
        second = k.second;
      };
      stopped = option_map (fault_of k.place) k.stopped;
      failed = w.failed;
      calls = w.calls;
      asked = w.asked;
      held = length w.held - k.taken;
    }

-- the current record is at the front of what the window holds
pub record IsCaptureWindow (w : Held) (taken : ℕ) : Type 0 where
  pub room : w.room ≡ ROOM
  pub within : taken ≤ length w.held

-- a record was read, and its frame skipped
pub record Passes (old new : CaptureState) : Type 0 where
  pub going : new.stopped ≡ None
  pub frames : HadAhead old new (λ a. a)
  pub opaque : old.left ≡ None → new.left ≡ None
  pub format : new.format ≡ old.format
  pub asks : CallsForFrames old new
  pub gains : GainsFrames 0 old new
  pub smaller : frame_budget new < frame_budget old

-- the reader can't continue
pub record Halts (old new : CaptureState) (e : Fault) : Type 0 where
  pub going : new.stopped ≡ None
  pub why : StopsCapture old new e

-- the effect of reading the next record
abbrev pub Takes : CaptureState → CaptureState → Result RecordKind CaptureStop → Type 0
Takes old new (Ok taken.Frame) = AtFrame old new
Takes old new (Ok taken.Skipped) = Passes old new
Takes old new (Ok taken.End) = AtCaptureEnd old new
Takes old new (Err stop) = Halts old new (fault_of new.place stop)

-- the effect of advancing to the next frame, without storing the fault
abbrev pub GoesOnToFrame : CaptureState → CaptureState → Result Bool CaptureStop → Type 0
GoesOnToFrame old new (Ok true) = AtFrame old new
GoesOnToFrame old new (Ok false) = AtCaptureEnd old new
GoesOnToFrame old new (Err stop) = Halts old new (fault_of new.place stop)
