-- Plain sums and totals worked out by the definitions.
use Rattle.std.proofs.Common.{◌≡◌, ℕ, List, [], ◌∷◌, Some, None, refl}
use Rattle.fx_base.specs.declared.counts.Counts.{Counts}
use Rattle.fx_elements.specs.declared.axis.Axis.TheVariants.{Source}
use Rattle.fx_layout.specs.Keys.{Layout, Key}
use Rattle.fx_tables.specs.declared.packet.Packet.{Packet}
use Rattle.fx_tables.specs.declared.record.Record.{Record}
use Rattle.fx_machine.specs.Sums.{plain_sum, total_at}

abbrev source : ℕ → Layout
source bits = record { axis = Source; bits = bits } ∷ []

-- a key of so many leading bits of the source
abbrev key : ℕ → ℕ → Key
key bits value = record { layout = source bits; values = value ∷ [] }

abbrev counts : ℕ → ℕ → Counts
counts packets octets = record { packets = packets; octets = octets }

-- a packet from this address to port 443 of 192.0.2.1, by TCP
abbrev packet : ℕ → ℕ → Packet
packet address octets = record {
  fields = address ∷ 3221225985 ∷ 6 ∷ 49152 ∷ 443 ∷ 0 ∷ 4 ∷ 0 ∷ 0 ∷ [];
  octets =
      octets;
  class = 1;
  path = 1;
}

-- from 10.1.2.3, 10.1.2.4 and 10.1.3.1
abbrev three : List Packet
three = packet 167838211 100 ∷ packet 167838212 50 ∷ packet 167838465 7 ∷ []

-- by the address 10.1.2.4
one_address : plain_sum (source 32) (key 32 167838212) three ≡ Some (counts 1 50)
one_address = refl

-- by 10.1.2.0/24 and by 10.1.3.0/24
of_first_two : plain_sum (source 24) (key 24 655618) three ≡ Some (counts 2 150)
of_first_two = refl

of_last : plain_sum (source 24) (key 24 655619) three ≡ Some (counts 1 7)
of_last = refl

-- by 10.1.0.0/16
of_all : plain_sum (source 16) (key 16 2561) three ≡ Some (counts 3 157)
of_all = refl

-- no packet is from 10.2.0.0/16, which isn't a sum of 0
of_none : plain_sum (source 16) (key 16 2562) three ≡ None
of_none = refl

-- a key of another layout is no packet's, though its value may be the same
of_other_layout : plain_sum (source 16) (key 15 2561) three ≡ None
of_other_layout = refl

-- plain sums don't wrap
beyond : plain_sum (source 16) (key 16 2561) (packet 167838211 18446744073709551615 ∷ packet 167838212 1 ∷ [])
    ≡ Some (counts 2 18446744073709551616)
beyond = refl

abbrev two_totals : List Record
two_totals = record { key = key 24 655618; counts = counts 2 150 } ∷ record { key = key 24 655619; counts = counts 1 7 }
    ∷ []

second_total : total_at two_totals (key 24 655619) ≡ Some (counts 1 7)
second_total = refl

no_total : total_at two_totals (key 24 655620) ≡ None
no_total = refl

no_total_of_layout : total_at two_totals (key 16 655618) ≡ None
no_total_of_layout = refl
