-- What IPv4 and IPv6 packets have in common.
use Rattle.std.specs.Prelude.{ℕ, ◌/◌, Bool, ◌==◌, ◌||◌, List, slice_index}

-- the IP version: the first four bits
abbrev pub version : List ℕ → ℕ
version octets = slice_index octets 0 / 16

-- TCP, UDP and SCTP begin with two ports
abbrev pub begins_with_ports : ℕ → Bool
begins_with_ports protocol = protocol == 6 || (protocol == 17 || protocol == 132)
