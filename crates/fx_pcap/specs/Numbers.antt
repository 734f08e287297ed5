-- Numbers in octets.
use Rattle.std.specs.Prelude.{ℕ, List, drop}
use Rattle.byteorder.specs.Endian.{big_number, little_number}
use Rattle.fx_pcap.specs.declared.order.Order.{Order}
use Rattle.fx_pcap.specs.declared.order.Order.TheVariants.{Big, Little}

-- the number in `n` octets from an index on, most significant octet first
abbrev pub network : ℕ → ℕ → List ℕ → ℕ
network n at octets = big_number n (drop at octets)

-- the same in the given octet order
abbrev pub number_in : Order → ℕ → ℕ → List ℕ → ℕ
number_in Big n at octets = big_number n (drop at octets)
number_in Little n at octets = little_number n (drop at octets)
