-- The packet of a frame, of the first class that holds it.
use Rattle.std.proofs.Common.{◌≡◌, ℕ, ◌+◌, ◌<◌, ◌^◌, Bool, true, false, List, Option, Some, None, Ok, refl, sym, ap, ◌∙◌, subst, add-one}
use Rattle.std.specs.Prelude.{position}
use Rattle.fx_base.specs.declared.fault.Fault.{Fault}
use Rattle.fx_boxes.specs.Boxes.{IsFields, holds}
use Rattle.fx_elements.specs.Axes.{Fields}
use Rattle.fx_tables.specs.declared.packet.Packet.{Packet}
use Rattle.fx_tables.specs.Classes.{Class}
use Rattle.fx_tables.specs.Network.{Net}
use Rattle.fx_pcap.specs.Captures as captures
use Rattle.fx_net.specs.declared.action.Action.TheVariants as action
use Rattle.fx_net.specs.Contents.{Contents}
use Rattle.fx_net.specs.Doings.{ReadsFrame, IsFrame, after_packet}
use Rattle.fx_net.specs.Running.{IsOfNone, packet_of, fault_of, stop_of}

first_place : List Class → Fields → Option ℕ
first_place classes fields = position (λ (c : Class). holds c.region fields) classes

-- no class holds it
pub of_none : (classes : List Class) (fields : Fields) (seen : captures.Seen) (place : Option ℕ) → fields ≡ seen.fields
    → place ≡ position (λ (c : Class). holds c.region fields) classes → place ≡ None → IsOfNone classes seen
unfolding first_place
of_none classes fields seen place e is none = ap (first_place classes) (sym e) ∙ sym is ∙ none

-- the frame that is seen has the same fields, octets and second
pub of_seen : (p : Packet) (frame seen : captures.Seen) → frame.fields ≡ seen.fields → frame.octets ≡ seen.octets
    → IsFrame p frame → IsFrame p seen
of_seen p frame seen fields octets h = record {
  fields = h.fields ∙ fields;
  octets = h.octets ∙ octets;
  values = subst IsFields fields h.values;
  few = subst (λ (n : ℕ). n < 2 ^ 32) octets h.few;
}

-- the class at this place is the first that holds it
pub reads_first : (net : Net) (classes : List Class) (frame seen : captures.Seen) (place : Option ℕ) (k : ℕ)
    (old done : Contents)
    → frame.fields ≡ seen.fields → frame.octets ≡ seen.octets → frame.second ≡ seen.second
    → IsFrame (packet_of frame (k + 1) 1) frame → frame.second < 2 ^ 32
    → place ≡ position (λ (c : Class). holds c.region frame.fields) classes → place ≡ Some k
    → done ≡ after_packet net classes (packet_of frame (k + 1) 1) frame.second old
    → ReadsFrame net classes action.Next seen old done
reads_first net classes frame seen place k old done fields octets second of_frame soon is there made = record {
  packet = packet_of frame (k + 1) 1;
  is_frame = of_seen (packet_of frame (k + 1) 1) frame seen fields octets of_frame;
  soon = subst (λ (n : ℕ). n < 2 ^ 32) second soon;
  given = (k, sym is ∙ there, add-one k, refl);
  done_is = made ∙ ap (λ (s : ℕ). after_packet net classes (packet_of frame (k + 1) 1) s old) second;
}

-- a reader that answers that there is a frame is at it, and one that answers that there is none is at the end
pub at_frame_of : (old new : captures.CaptureState) (there : Bool) → captures.AdvancesToFrame old new (Ok there) → there
    ≡ true → captures.AtFrame old new
at_frame_of old new true h e = h
at_frame_of old new false h e = absurd cc

pub at_end_of : (old new : captures.CaptureState) (there : Bool) → captures.AdvancesToFrame old new (Ok there) → there
    ≡ false → captures.AtCaptureEnd old new
at_end_of old new true h e = absurd cc
at_end_of old new false h e = h

-- what a reader of a capture answers is kept as it is
pub reported_again : (e : Fault) → captures.IsCaptureFault e → fault_of (stop_of e) ≡ e
reported_again e (captures.not_read is) = ap (λ (f : Fault). fault_of (stop_of f)) is ∙ sym is
reported_again e (captures.cut_off octet is) = ap (λ (f : Fault). fault_of (stop_of f)) is ∙ sym is
reported_again e (captures.too_long octet is) = ap (λ (f : Fault). fault_of (stop_of f)) is ∙ sym is
