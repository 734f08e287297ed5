-- Plain sums over packets, and the entry of a list of totals at a key.
use Rattle.std.specs.Prelude.{ℕ, ◌+◌, ◌^◌, ◌<◌, List, [], ◌∷◌, Option, Some, None, if◌then◌else◌, IfSome}
use Rattle.fx_base.specs.declared.counts.Counts.{Counts}
use Rattle.fx_layout.specs.Keys.{Layout, Key, key_of, same_key}
use Rattle.fx_tables.specs.declared.record.Record.{Record}
use Rattle.fx_tables.specs.declared.packet.Packet.{Packet}

-- the counts with one packet more, as whole numbers
abbrev pub one_more : ℕ → Option Counts → Counts
one_more octets None = record { packets = 1; octets = octets }
one_more octets (Some c) = record { packets = 1 + c.packets; octets = octets + c.octets }

-- the number of packets with this key and the sum of their octets, as whole numbers; none where no packet has it
abbrev pub plain_sum : Layout → Key → List Packet → Option Counts
plain_sum layout key [] = None
plain_sum layout key (p ∷ ps) =
    if same_key (key_of layout p.fields) key then Some (one_more p.octets (plain_sum layout key ps)) else plain_sum
    layout key ps

-- the entry of the totals at a key
abbrev pub total_at : List Record → Key → Option Counts
total_at [] key = None
total_at (t ∷ ts) key = if same_key t.key key then Some t.counts else total_at ts key

abbrev pub IsBelow : Counts → Type 0
IsBelow c = (c.packets < 2 ^ 64) × (c.octets < 2 ^ 64)

-- the plain sums are below 2 to the 64
abbrev pub SumsFit : Layout → List Packet → Type 0
SumsFit layout packets = (key : Key) → IfSome (plain_sum layout key packets) IsBelow
