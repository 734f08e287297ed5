-- The file header and the records of a capture (the classic pcap format, version 2.4).
use Rattle.std.specs.Prelude.{◌≡◌, ℕ, zero, suc, ◌+◌, ◌-◌, ◌^◌, ◌<◌, Bool, ◌==◌, ◌||◌, ◌&&◌, nat_lt, min, if◌then◌else◌, List, [], ◌∷◌, length, take, drop, Option, Some, None, Result, Ok, Err}
use Rattle.fx_base.specs.declared.fault.Fault.{Fault}
use Rattle.fx_base.specs.declared.fault.Place.TheVariants as places
use Rattle.fx_base.specs.Fault.{fault_at}
use Rattle.fx_base.specs.Refusals.{capture_cut, capture_format, link_type, long_capture_record}
use Rattle.fx_pcap.specs.declared.order.Order.{Order}
use Rattle.fx_pcap.specs.declared.order.Order.TheVariants.{Big, Little}
use Rattle.fx_pcap.specs.declared.content.Content.{Content}
use Rattle.fx_pcap.specs.declared.content.LinkType.{LinkType}
use Rattle.fx_pcap.specs.declared.content.LinkType.TheVariants.{Ethernet, Ip}
use Rattle.fx_pcap.specs.declared.header.Format.{Format}
use Rattle.fx_pcap.specs.Numbers.{number_in}
use Rattle.fx_pcap.specs.Frames.{content_of}

-- ---- the file header: 24 octets

-- the magic numbers of captures with microseconds and with nanoseconds
abbrev pub is_magic : ℕ → Bool
is_magic n = n == 0xa1b2c3d4 || n == 0xa1b23c4d

abbrev pub order_of : List ℕ → Option Order
order_of octets = if is_magic (number_in Big 4 0 octets) then Some Big
    else (if is_magic (number_in Little 4 0 octets) then Some Little else None)

abbrev pub link_of : ℕ → Option LinkType
link_of n = if n == 1 then Some Ethernet else (if n == 101 then Some Ip else None)

abbrev pub no_capture : Result Format Fault
no_capture = Err (fault_at capture_format (places.Octet 0))

abbrev pub of_link : Order → Option LinkType → Result Format Fault
of_link order None = Err (fault_at link_type places.None)
of_link order (Some link) = Ok (record { order = order; link = link })

abbrev pub of_order : Option Order → List ℕ → Result Format Fault
of_order None octets = no_capture
of_order (Some order) octets =
    if number_in order 2 4 octets == 2 && number_in order 2 6 octets == 4
    then of_link order (link_of (number_in order 4 20 octets))
    else no_capture

-- magic number and version, and, after time zone, accuracy and snap length, the link type
abbrev pub format_of : List ℕ → Result Format Fault
format_of octets = if nat_lt (length octets) 24 then no_capture else of_order (order_of octets) octets

-- ---- records: a header of 16 octets, and the captured octets

-- seconds, fraction, captured length, original length
abbrev pub second_of : Order → List ℕ → ℕ
second_of order octets = number_in order 4 0 octets

abbrev pub captured_length : Order → List ℕ → ℕ
captured_length order octets = number_in order 4 8 octets

-- the number of the fault of the first record of some octets, if any
abbrev pub record_fault : Order → List ℕ → Option ℕ
record_fault order octets =
    if nat_lt (length octets) 16 then Some capture_cut
    else (if nat_lt 262144 (captured_length order octets) then Some long_capture_record
    else (if nat_lt (length octets) (16 + captured_length order octets) then Some capture_cut else None))

-- what a record holds: its captured octets, their content, and the second of capture
pub record CapturedRecord : Type 0 where
  pub captured : List ℕ
  pub content : Content
  pub second : ℕ

abbrev pub captured_in : Order → List ℕ → List ℕ
captured_in order octets = take (captured_length order octets) (drop 16 octets)

abbrev pub item_of : Format → List ℕ → CapturedRecord
item_of format octets = record {
  captured = captured_in format.order octets;
  content = content_of format.link (captured_in format.order octets);
  second = second_of format.order octets;
}

-- records, and the fault at which they end, if any
pub record Records : Type 0 where
  pub items : List CapturedRecord
  pub fault : Option Fault

-- the index of an octet is capped at 2 to the 64 less 1
abbrev pub place_after : ℕ → ℕ → ℕ
place_after place n = min (place + n) (2 ^ 64 - 1)

abbrev pub with_item : Option ℕ → ℕ → CapturedRecord → Records → Records
with_item (Some number) place item rest = record { items = []; fault = Some (fault_at number (places.Octet place)) }
with_item None place item rest = record { items = item ∷ rest.items; fault = rest.fault }

-- the records of octets from this place on, of which the first `n` octets belong to a record that was already read
abbrev pub records_behind : Format → ℕ → ℕ → List ℕ → Records
records_behind format place n [] = record { items = []; fault = None }
records_behind format place (suc n) (o ∷ octets) = records_behind format (place_after place 1) n octets
records_behind format place zero (o ∷ octets) =
    with_item (record_fault format.order (o ∷ octets)) place (item_of format (o ∷ octets))
    (records_behind format (place_after place 1) (15 + captured_length format.order (o ∷ octets)) octets)

abbrev pub records_of : Format → ℕ → List ℕ → Records
records_of format place octets = records_behind format place 0 octets

-- ---- the same, stated case by case

-- no octets hold no records; a whole record precedes those of the octets after it; a fault is at the place of its
-- record
pub data AreRecords (format : Format) : ℕ → List ℕ → Records → Type 0 where
  no_octets : (place : ℕ) → AreRecords format place [] (record { items = []; fault = None })
  whole_record : (place : ℕ) (octets : List ℕ) (behind : Records) → 0 < length octets → record_fault format.order octets
      ≡ None → AreRecords format (place_after place (16 + captured_length format.order octets))
      (drop (16 + captured_length format.order octets) octets) behind
      → AreRecords format place octets (record { items = item_of format octets ∷ behind.items; fault = behind.fault })
  no_record : (place number : ℕ) (octets : List ℕ) → 0 < length octets → record_fault format.order octets ≡ Some number
      → AreRecords format place octets (record { items = []; fault = Some (fault_at number (places.Octet place)) })
