-- The first record of a capture of which some octets are held.
use Rattle.std.specs.Prelude.{◌≡◌, ℕ, ◌+◌, ◌≤◌, ◌<◌, List, [], length, Some, IfSome}
use Rattle.fx_base.specs.Device.{MayHaveLeft}
use Rattle.fx_base.specs.Window.{Held, octets_of, HasFailed}
use Rattle.fx_base.specs.Refusals.{capture_cut, long_capture_record}
use Rattle.fx_pcap.specs.declared.order.Order.{Order}
use Rattle.fx_pcap.specs.declared.stop.CaptureStop.{CaptureStop}
use Rattle.fx_pcap.specs.declared.stop.CaptureStop.TheVariants.{Device, Cut, TooLong}
use Rattle.fx_pcap.specs.Records.{captured_length, record_fault}

-- no octets are held or left
abbrev pub HasEnded : Held → Type 0
HasEnded w = (w.held ≡ []) × IfSome w.left (λ left. left ≡ [])

-- the first record is held as a whole, and has this number of octets
pub record HasRecord (order : Order) (n : ℕ) (held : List ℕ) : Type 0 where
  pub size : n ≡ 16 + captured_length order held
  pub short : captured_length order held ≤ 262144
  pub whole : n ≤ length held

-- why no record is found
abbrev pub IsWhyNoRecord : Order → CaptureStop → Held → Held → Type 0
IsWhyNoRecord order Device old new = HasFailed old new
IsWhyNoRecord order Cut old new = MayHaveLeft (octets_of old)
    (λ os. (0 < length os) × (record_fault order os ≡ Some capture_cut))
IsWhyNoRecord order TooLong old new = MayHaveLeft (octets_of old)
    (λ os. (0 < length os) × (record_fault order os ≡ Some long_capture_record))
