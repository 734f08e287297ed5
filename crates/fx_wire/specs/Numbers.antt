-- Numbers in octets, the highest octet first (RFC 7011, section 6.1.1).
use Rattle.std.specs.Prelude.{ℕ, List, take, drop}
use Rattle.std.specs.Int.{Width, byte_len, from_be_bytes}

-- the number of this width at offset i
abbrev pub number_at : Width → ℕ → List ℕ → ℕ
number_at w i octets = from_be_bytes w (take (byte_len w) (drop i octets))
