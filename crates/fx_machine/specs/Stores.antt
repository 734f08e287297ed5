-- Lists of records, by index.
use Rattle.std.specs.Prelude.{ℕ, List, slice_get, slice_set}
use Rattle.fx_tables.specs.declared.record.Record.{Record}
use Rattle.fx_tables.specs.Network.{Net, entries}
use Rattle.fx_tables.specs.Classes.{Class}
use Rattle.fx_tables.specs.declared.packet.Packet.{Packet}
use Rattle.fx_machine.specs.States.{State, without}

-- the record of this number is removed from the list at this index
abbrev pub taken_out : List (List Record) → ℕ → ℕ → List (List Record)
taken_out rss place number = slice_set rss place (without (entries (slice_get rss place)) number)

-- a network, its packets and its state
pub record LoadedNetwork : Type 0 where
  pub net : Net
  pub classes : List Class
  pub packets : List Packet
  pub state : State
