-- Messages: a header and sets (RFC 7011, section 3).
use Rattle.std.specs.Prelude.{ℕ, List, take, drop, Result, Ok, Err}
use Rattle.fx_wire.specs.Headers.{Frame, frame_at, header_of, more, whole, refused}
use Rattle.fx_wire.specs.Sets.{SetParts, sets_of}
use Rattle.fx_wire.specs.declared.header.Header.{Header}
use Rattle.fx_wire.specs.declared.malformed.Malformed.{Malformed}

-- a message: its number of octets, its header and its sets
pub record Message : Type 0 where
  pub octets : ℕ
  pub header : Header
  pub sets : List SetParts

-- what is at the front of a stream
pub data Front : Type 0 where
  needs_more : Front
  complete : Message → Front
  refusal : Malformed → Front

abbrev pub with_sets : ℕ → Header → Result (List SetParts) Malformed → Front
with_sets n header (Ok sets) = complete (record { octets = n; header = header; sets = sets })
with_sets n header (Err why) = refusal why

abbrev pub front_by : List ℕ → Frame → Front
front_by octets more = needs_more
front_by octets (refused why) = refusal why
front_by octets (whole n) = with_sets n (header_of octets) (sets_of (drop 16 (take n octets)))

-- The faults of the header take precedence over those of the sets, and these are found in the order of the octets.
abbrev pub front : List ℕ → Front
front octets = front_by octets (frame_at octets)
