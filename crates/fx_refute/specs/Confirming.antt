-- The steps of confirming a refutation.
use Rattle.std.specs.Prelude.{◌≡◌, ℕ, ◌+◌, List, ◌∷◌, ◌++◌, map, length, Ok, Err}
use Rattle.fx_base.specs.declared.fault.Fault.{Fault}
use Rattle.fx_base.specs.declared.fault.Place.TheVariants as places
use Rattle.fx_base.specs.Fault.{fault_at}
use Rattle.fx_base.specs.Refusals.{refutation_step}
use Rattle.fx_layout.specs.Keys.{Layout, Key, key_of}
use Rattle.fx_tables.specs.declared.packet.Packet.{Packet}
use Rattle.fx_tables.specs.declared.record.Record.{Record}
use Rattle.fx_run_text.specs.declared.step.Step.{Step}
use Rattle.fx_tables.specs.Network.{Net}
use Rattle.fx_tables.specs.Classes.{Class}
use Rattle.fx_machine.specs.States.{State}
use Rattle.fx_machine.specs.Steps.{run, after, one_packet}
use Rattle.fx_machine.specs.Sums.{total_at}
use Rattle.fx_collect.specs.Totals.{Totals, nothing, with_records}

-- the first of these steps that isn't enabled is reported by its line
pub record IsStopped (net : Net) (classes : List Class) (packets : List Packet) (steps : List Step) (s : State)
    (e : Fault) : Type 0 where
  pub before : List Step
  pub step : Step
  pub behind : List Step
  pub mid : State
  pub number : ℕ
  pub all : steps ≡ before ++ step ∷ behind
  pub runs : run net classes packets before s ≡ Ok mid
  pub refused : after net classes packets step mid ≡ Err number
  pub fault : e ≡ fault_at refutation_step (places.Line (length before + 3))

-- a packet's own record under the layout
abbrev pub own_record : Layout → Packet → Record
own_record layout p = record { key = key_of layout p.fields; counts = one_packet p }

-- the totals that result when the record of each of these packets is tallied
abbrev pub plain_totals : Layout → List Packet → Totals
plain_totals layout packets = with_records (nothing layout) (map (own_record layout) packets)

-- nothing is unassigned, both have the same number of keys, and both have the same total at this key
pub record TotalsAgreeAt (ran plain : Totals) (key : Key) : Type 0 where
  pub assigned : ran.unassigned ≡ 0
  pub keys : length ran.entries ≡ length plain.entries
  pub same : total_at ran.entries key ≡ total_at plain.entries key
