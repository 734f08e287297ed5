-- The claims restricted to the packets of one kind.
use Rattle.std.specs.Prelude.{List, All}
use Rattle.fx_tables.specs.declared.packet.Packet.{Packet}
use Rattle.fx_tables.specs.Network.{Net}
use Rattle.fx_base.specs.Entries.{entry_numbered}
use Rattle.fx_tables.specs.Classes.{Class, IsOf, to_count}
use Rattle.fx_machine.specs.States.{State, opening, Complete}
use Rattle.fx_machine.specs.Moves.{Runs}
use Rattle.fx_machine.specs.Sums.{SumsFit}
use Rattle.fx_machine.specs.Claim.{CountsEachOnce, CountsEachModulo}

-- the same as ExactlyOnce, for lists of packets of this kind
abbrev pub ExactlyOnceOf : (Packet → Type 0) → Net → List Class → Type 0
ExactlyOnceOf IsOfKind net classes =
    (packets : List Packet) → All IsOfKind packets → All (λ p. IsOf p (entry_numbered classes p.class)) packets
    → SumsFit net.report_layout (to_count classes packets) → (final : State)
    → Runs net classes packets (opening net classes packets) final → Complete final
    → CountsEachOnce net (to_count classes packets) final

-- the same as OnceModulo, for lists of packets of this kind
abbrev pub OnceModuloOf : (Packet → Type 0) → Net → List Class → Type 0
OnceModuloOf IsOfKind net classes =
    (packets : List Packet) → All IsOfKind packets → All (λ p. IsOf p (entry_numbered classes p.class)) packets
    → (final : State) → Runs net classes packets (opening net classes packets) final → Complete final
    → CountsEachModulo net (to_count classes packets) final
