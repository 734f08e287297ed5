-- Message headers (RFC 7011, section 3.1): 16 octets with the version, the length of the whole message, the export
-- time, the
-- sequence number and the observation domain.
use Rattle.std.specs.Prelude.{ℕ, not, ◌==◌, nat_lt, if◌then◌else◌, List, length}
use Rattle.std.specs.Int.{w16, w32}
use Rattle.fx_wire.specs.Numbers.{number_at}
use Rattle.fx_wire.specs.declared.header.Header.{Header}
use Rattle.fx_wire.specs.declared.malformed.Malformed.{Malformed}
use Rattle.fx_wire.specs.declared.malformed.Malformed.TheVariants as malformed

-- what the header at the front of a stream says: that more octets are needed, how long the complete message is,
-- or why it is refused
pub data Frame : Type 0 where
  more : Frame
  whole : ℕ → Frame
  refused : Malformed → Frame

-- the frame, from the number of octets present, the version and the length that the header gives
abbrev pub frame_of : ℕ → ℕ → ℕ → Frame
frame_of there version size =
    if nat_lt there 16 then more
    else if not (version == 10) then refused malformed.Version
    else if nat_lt size 16 then refused malformed.MessageLength
    else if nat_lt there size then more
    else whole size

-- Fewer than 16 octets need more, whatever they are; so does a header whose message isn't complete yet.
abbrev pub frame_at : List ℕ → Frame
frame_at octets = frame_of (length octets) (number_at w16 0 octets) (number_at w16 2 octets)

abbrev pub header_of : List ℕ → Header
header_of octets = record {
  export_time = number_at w32 4 octets;
  sequence_number = number_at w32 8 octets;
  observation_domain = number_at w32 12 octets;
}
