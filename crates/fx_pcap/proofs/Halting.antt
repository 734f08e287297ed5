-- Why a reader of a capture can't go on, where no record is found.
use Rattle.std.proofs.Common.{◌≡◌, ℕ, ◌+◌, ◌-◌, ◌≤◌, ◌<◌, List, [], ◌∷◌, length, drop, Option, Some, None, IfSome, inl, inr, refl, ap, subst, arith}
use Rattle.std.proofs.lemmas.List.{length-append, length-drop}
use Rattle.std.specs.Io.KnownBytes.{prepend_known}
use Rattle.fx_base.specs.Device.{IsAsked, MayHaveLeft}
use Rattle.fx_base.specs.Fault.{fault_at}
use Rattle.fx_base.specs.declared.fault.Place.TheVariants as places
use Rattle.fx_base.specs.Limits.{call_limit}
use Rattle.fx_base.specs.Window.{Held, HasFailed, octets_of}
use Rattle.fx_pcap.specs.declared.header.Format.{Format}
use Rattle.fx_pcap.specs.declared.skipped.Skipped.{Skipped}
use Rattle.fx_pcap.specs.declared.stop.CaptureStop.{CaptureStop}
use Rattle.fx_pcap.specs.declared.stop.CaptureStop.TheVariants.{Device, Cut, TooLong}
use Rattle.fx_pcap.specs.Records.{item_of, place_after, records_behind, captured_length, record_fault, records_of, with_item}
use Rattle.fx_pcap.specs.Captures.{IsCaptureCutOff, StopsCapture, ahead_in, nothing_more}
use Rattle.fx_pcap.specs.FirstRecord.{IsWhyNoRecord}
use Rattle.fx_pcap.specs.Kept.{Halts, KeptRecord, fault_of, reading_of}
use Rattle.fx_pcap.proofs.Asking.{asks_of}

-- the reader as it is behind the octets of the record before
abbrev pub passed_by : KeptRecord → KeptRecord
passed_by k = record k { taken = 0 }

-- behind a record that is refused nothing is ahead
nothing_ahead : (s : Skipped) (format : Format) (place n : ℕ) (os : List ℕ) → 0 < length os
    → record_fault format.order os ≡ Some n → ahead_in s (records_of format place os)
    ≡ nothing_more s (Some (fault_at n (places.Octet place)))
nothing_ahead s format place n [] some is = absurd (omega (arith, some))
nothing_ahead s format place n (o ∷ os) some is =
    ap (λ (f : Option ℕ). ahead_in s (with_item f place (item_of format (o ∷ os))
    (records_behind format (place_after place 1) (15 + captured_length format.order (o ∷ os)) os))) is

-- so many octets are left of the source as are unread
calls_left : (w : Held) (n : ℕ) (left : Option (List ℕ)) → IfSome left (λ l. call_limit ≤ w.calls + length l)
    → IfSome (prepend_known (drop n w.held) left)
    (λ octets. call_limit ≤ w.calls + (length octets - (length w.held - n)))
calls_left w n None h = tt
calls_left w n (Some l) h = omega (arith, h, length-append (drop n w.held) l, length-drop n w.held)

cut_off : (w w1 w2 : Held) (k : KeptRecord) → w1 ≡ record w { held = drop k.taken w.held } → w1.calls ≤ w2.calls
    → IsAsked w1.asked (w2.calls - w1.calls) w2.asked → HasFailed w1 w2
    → IsCaptureCutOff (reading_of w k) (reading_of w2 (passed_by k))
cut_off w w1 w2 k passed more asked (inl failed) = inl failed
cut_off w w1 w2 k passed more asked (inr ended) = inr (
  ended.0,
  asks_of w w1 w2 k (passed_by k) passed more asked,
  calls_left w k.taken w.left (subst (λ (h : Held). IfSome h.left (λ l. call_limit ≤ h.calls + length l)) passed
      ended.1),
)

refused : (n : ℕ) (w w1 : Held) (k : KeptRecord) → w1 ≡ record w { held = drop k.taken w.held }
    → MayHaveLeft (octets_of w1) (λ os. (0 < length os) × (record_fault k.format.order os ≡ Some n))
    → MayHaveLeft (prepend_known (drop k.taken w.held) w.left)
    (λ os. ahead_in k.skipped (records_of k.format k.place os)
    ≡ nothing_more k.skipped (Some (fault_at n (places.Octet k.place))))
refused n w w1 k passed why =
    let there = subst (λ (h : Held). MayHaveLeft (octets_of h)
    (λ os. (0 < length os) × (record_fault k.format.order os ≡ Some n))) passed why in
    (there.0, there.1, nothing_ahead k.skipped k.format k.place n there.0 there.2.0 there.2.1)

stops : (w w1 w2 : Held) (k : KeptRecord) (stop : CaptureStop) → w1 ≡ record w { held = drop k.taken w.held } → w1.calls
    ≤ w2.calls → IsAsked w1.asked (w2.calls - w1.calls) w2.asked → IsWhyNoRecord k.format.order stop w1 w2
    → StopsCapture (reading_of w k) (reading_of w2 (passed_by k)) (fault_of k.place stop)
stops w w1 w2 k Device passed more asked why = inl (refl, cut_off w w1 w2 k passed more asked why)
stops w w1 w2 k Cut passed more asked why = inr (inl refl, refused 703 w w1 k passed why)
stops w w1 w2 k TooLong passed more asked why = inr (inr refl, refused 704 w w1 k passed why)

pub halts : (w w1 w2 : Held) (k : KeptRecord) (stop : CaptureStop) → w1 ≡ record w { held = drop k.taken w.held }
    → w1.calls ≤ w2.calls → IsAsked w1.asked (w2.calls - w1.calls) w2.asked → IsWhyNoRecord k.format.order stop w1 w2
    → (reading_of w k).stopped ≡ None → Halts (reading_of w k) (reading_of w2 (passed_by k)) (fault_of k.place stop)
halts w w1 w2 k stop passed more asked why going = record {
  going = going;
  why = stops w w1 w2 k stop passed more asked why;
}
