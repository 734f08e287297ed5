-- Runs of one packet that show a wrong total.
use Rattle.std.specs.Prelude.{◌≡◌, ◌+◌, ℕ, List, [], ◌∷◌, ◌++◌, length, Ok, Err}
use Rattle.fx_base.specs.declared.fault.Fault.{Fault}
use Rattle.fx_base.specs.declared.fault.Place.TheVariants as places
use Rattle.fx_base.specs.Fault.{fault_at}
use Rattle.fx_layout.specs.Keys.{Layout, Key}
use Rattle.fx_tables.specs.declared.packet.Packet.{Packet}
use Rattle.fx_run_text.specs.declared.step.Step.{Step}
use Rattle.fx_tables.specs.Network.{Net}
use Rattle.fx_base.specs.Entries.{entry_numbered}
use Rattle.fx_base.specs.Refusals.{refutation_packet, refutation_step, run_not_complete, totals_agree}
use Rattle.fx_tables.specs.Classes.{Class, IsOf, to_count}
use Rattle.fx_machine.specs.Claim.{CountsEachOnce}
use Rattle.fx_machine.specs.States.{State, opening, Complete, wrapped_state}
use Rattle.fx_machine.specs.Steps.{run, after}
use Rattle.fx_machine.specs.Sums.{plain_sum, total_at}
use Rattle.fx_collect.specs.Totals.{Totals, IsTable, totals_in}

-- a packet, and the steps of a run over this packet alone
pub record Refutation : Type 0 where
  pub packet : Packet
  pub steps : List Step

-- the packet, unless its class is exempt
abbrev pub packets_to_count : List Class → Refutation → List Packet
packets_to_count classes r = to_count classes (r.packet ∷ [])

-- the packet is in its class, and the steps lead from the initial state with this packet to this state
pub record ReachesState (net : Net) (classes : List Class) (r : Refutation) (last : State) : Type 0 where
  pub of_class : IsOf r.packet (entry_numbered classes r.packet.class)
  pub runs : run net classes (r.packet ∷ []) r.steps (opening net classes (r.packet ∷ [])) ≡ Ok last

-- the run is complete, and its totals aren't the plain sums, or something is unassigned
pub record Refutes (net : Net) (classes : List Class) (r : Refutation) : Type 0 where
  pub last : State
  pub runs_to : ReachesState net classes r last
  pub complete : Complete last
  pub wrong : CountsEachOnce net (packets_to_count classes r) last → ⊥

-- ---- answers

-- these totals have each key once, and are the plain sums over these packets
pub record IsPlainSumTable (layout : Layout) (packets : List Packet) (t : Totals) : Type 0 where
  pub layout_is : t.layout ≡ layout
  pub table : IsTable layout t.entries
  pub sums : (key : Key) → total_at t.entries key ≡ plain_sum layout key packets
  pub assigned : t.unassigned ≡ 0

-- the totals of a refutation's last state, and the plain sums over its packet
pub record AreTotals (net : Net) (classes : List Class) (r : Refutation) (ran plain : Totals) : Type 0 where
  pub last : State
  pub runs_to : ReachesState net classes r last
  pub totals : ran ≡ totals_in net.report_layout (wrapped_state last)
  pub sums : IsPlainSumTable net.report_layout (packets_to_count classes r) plain

-- why nothing is refuted: the packet isn't in its class, a step isn't enabled (steps begin at line 3), the run isn't
-- complete, or its totals are the plain sums and nothing is unassigned
pub data IsNoRefutation (net : Net) (classes : List Class) (r : Refutation) : Fault → Type 0 where
  no_member : (IsOf r.packet (entry_numbered classes r.packet.class) → ⊥)
      → IsNoRefutation net classes r (fault_at refutation_packet (places.Line 2))
  not_enabled : (steps : List Step) (step : Step) (behind : List Step) (s : State) (number : ℕ)
      → r.steps ≡ steps ++ step ∷ behind → ReachesState net classes (record { packet = r.packet; steps = steps }) s
      → after net classes (r.packet ∷ []) step s ≡ Err number
      → IsNoRefutation net classes r (fault_at refutation_step (places.Line (length steps + 3)))
  incomplete : (last : State) → ReachesState net classes r last → (Complete last → ⊥)
      → IsNoRefutation net classes r (fault_at run_not_complete places.None)
  agrees : (last : State) → ReachesState net classes r last → Complete last
      → CountsEachOnce net (packets_to_count classes r) last
      → IsNoRefutation net classes r (fault_at totals_agree places.None)
