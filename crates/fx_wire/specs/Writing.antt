-- The octets of a message.
use Rattle.std.specs.Prelude.{◌≡◌, ◌<◌, ◌≤◌, ◌^◌, false, ℕ, ◌+◌, List, [], ◌∷◌, ◌++◌, length}
use Rattle.std.specs.Int.{w16, w32, to_be_bytes}
use Rattle.fx_wire.specs.Sets.{SetParts, is_reserved}
use Rattle.fx_wire.specs.declared.header.Header.{Header}

-- the number of octets of a set
abbrev pub set_length : SetParts → ℕ
set_length s = 4 + length s.content

-- a set: its id, its length including this header, and its content
unfoldable pub set_octets : SetParts → List ℕ
set_octets s = to_be_bytes w16 s.id ++ (to_be_bytes w16 (set_length s) ++ s.content)

abbrev pub sets_length : List SetParts → ℕ
sets_length [] = 0
sets_length (s ∷ ss) = set_length s + sets_length ss

abbrev pub sets_octets : List SetParts → List ℕ
sets_octets [] = []
sets_octets (s ∷ ss) = set_octets s ++ sets_octets ss

-- the number of octets of a message with these sets
abbrev pub message_length : List SetParts → ℕ
message_length sets = 16 + sets_length sets

unfoldable pub version_octets : ℕ → List ℕ
version_octets n = to_be_bytes w16 10 ++ to_be_bytes w16 n

unfoldable pub origin_octets : Header → List ℕ
origin_octets h = to_be_bytes w32 h.export_time
    ++ (to_be_bytes w32 h.sequence_number ++ to_be_bytes w32 h.observation_domain)

-- the version, the length of the whole message, the export time, the sequence number and the observation domain; then
-- the sets
abbrev pub message_octets : Header → List SetParts → List ℕ
message_octets header sets = version_octets (message_length sets) ++ (origin_octets header ++ sets_octets sets)

-- ---- what can be written

-- an id that a set may have
abbrev pub HasId : SetParts → Type 0
HasId s = (s.id < 2 ^ 16) × (is_reserved s.id ≡ false)

abbrev pub HaveIds : List SetParts → Type 0
HaveIds [] = Unit {0}
HaveIds (s ∷ ss) = HasId s × HaveIds ss

-- numbers of 32 bits in the header, ids that sets may have, and a length that the header can hold
pub record IsMessage (header : Header) (sets : List SetParts) : Type 0 where
  pub time : header.export_time < 2 ^ 32
  pub sequence : header.sequence_number < 2 ^ 32
  pub domain : header.observation_domain < 2 ^ 32
  pub ids : HaveIds sets
  pub length_is : message_length sets ≤ 65535
