-- Runs from the opening state that end in a complete state.
use Rattle.std.specs.Prelude.{List}
use Rattle.fx_tables.specs.declared.packet.Packet.{Packet}
use Rattle.fx_tables.specs.Network.{Net}
use Rattle.fx_tables.specs.Classes.{Class}
use Rattle.fx_machine.specs.States.{State, opening, Complete}
use Rattle.fx_machine.specs.Moves.{Runs}

-- there is a complete run over the packets
pub record HasCompleteRun (net : Net) (classes : List Class) (packets : List Packet) : Type 0 where
  pub final : State
  pub runs : Runs net classes packets (opening net classes packets) final
  pub complete : Complete final
