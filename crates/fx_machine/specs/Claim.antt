-- Each packet is counted once, and those of exempt classes never.
use Rattle.std.specs.Prelude.{◌≡◌, ◌%◌, ◌^◌, List, All}
use Rattle.std.specs.Option.{option_map}
use Rattle.fx_base.specs.declared.counts.Counts.{Counts}
use Rattle.fx_layout.specs.Keys.{Key}
use Rattle.fx_tables.specs.declared.packet.Packet.{Packet}
use Rattle.fx_tables.specs.Network.{Net}
use Rattle.fx_base.specs.Entries.{entry_numbered}
use Rattle.fx_tables.specs.Classes.{Class, IsOf, to_count}
use Rattle.fx_machine.specs.States.{State, opening, Complete}
use Rattle.fx_machine.specs.Moves.{Runs}
use Rattle.fx_machine.specs.Sums.{plain_sum, total_at, SumsFit}

-- the totals of a state are the plain sums over these packets, and no record is unassigned
pub record CountsEachOnce (net : Net) (packets : List Packet) (final : State) : Type 0 where
  pub totals : (key : Key) → total_at final.totals key ≡ plain_sum net.report_layout key packets
  pub assigned : final.unassigned ≡ 0

-- for every list of packets of the classes, where the plain sums over those to count are under 2 to the 64, and every
-- complete run over it
abbrev pub ExactlyOnce : Net → List Class → Type 0
ExactlyOnce net classes =
    (packets : List Packet) → All (λ p. IsOf p (entry_numbered classes p.class)) packets
    → SumsFit net.report_layout (to_count classes packets) → (final : State)
    → Runs net classes packets (opening net classes packets) final → Complete final
    → CountsEachOnce net (to_count classes packets) final

-- counts modulo 2 to the 64
abbrev pub counts_modulo : Counts → Counts
counts_modulo c = record { packets = c.packets % 2 ^ 64; octets = c.octets % 2 ^ 64 }

-- the totals of a state are the plain sums over these packets modulo 2 to the 64, and no record is unassigned
pub record CountsEachModulo (net : Net) (packets : List Packet) (final : State) : Type 0 where
  pub totals : (key : Key) → option_map counts_modulo (total_at final.totals key)
      ≡ option_map counts_modulo (plain_sum net.report_layout key packets)
  pub assigned : final.unassigned ≡ 0

-- for every list of packets of the classes, however large the plain sums over those to count, and every complete run
-- over it
abbrev pub OnceModulo : Net → List Class → Type 0
OnceModulo net classes =
    (packets : List Packet) → All (λ p. IsOf p (entry_numbered classes p.class)) packets → (final : State)
    → Runs net classes packets (opening net classes packets) final → Complete final
    → CountsEachModulo net (to_count classes packets) final
