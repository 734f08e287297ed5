-- Runs of one packet under construction.
use Rattle.std.specs.Prelude.{◌≡◌, ◌≤◌, ◌+◌, ◌++◌, ℕ, suc, List, [], ◌∷◌, length, Some, Ok, slice_get}
use Rattle.std.specs.List.{AllByRecursion}
use Rattle.fx_layout.specs.Keys.{key_of}
use Rattle.fx_elements.specs.Axes.{Fields}
use Rattle.fx_tables.specs.declared.packet.Packet.{Packet}
use Rattle.fx_tables.specs.declared.holder_name.HolderName.{HolderName}
use Rattle.fx_run_text.specs.declared.step.Step.{Step}
use Rattle.fx_run_text.specs.declared.step.Step.TheVariants.{Expire, Arrive}
use Rattle.fx_tables.specs.Classes.{Class}
use Rattle.fx_tables.specs.Network.{Net, holder_place}
use Rattle.fx_machine.specs.States.{State, Coming, opening, nothing_at}
use Rattle.fx_machine.specs.Steps.{run, one_packet}
use Rattle.fx_leaf.specs.declared.verdict.Fate.{Fate}
use Rattle.fx_leaf.specs.Fates.{both}
use Rattle.fx_leaf.specs.Tables.{Numbering, Tables, AreTables}
use Rattle.fx_steps.specs.declared.pending.Pending.{Pending}
use Rattle.fx_steps.specs.declared.pending.Pending.TheVariants.{AtHolder, OnLink}
use Rattle.fx_steps.specs.declared.waiting.Waiting.{Waiting}
use Rattle.fx_steps.specs.declared.building.Building.{Building}
use Rattle.fx_tables.specs.Runnable.{IsRunnable}
use Rattle.fx_steps.specs.Names.{NameAll}
use Rattle.fx_steps.specs.Building.{with_items}
use Rattle.fx_machine.specs.Limits.{step_limit}
use Rattle.fx_steps.specs.CostTables.{CostTable, PacketCosts, cost_fill}
use Rattle.fx_steps.specs.Planning.{pending_items, total_fate, total_cost, step_choices, IsThere, step_pending}
use Rattle.fx_steps.specs.Playing.{totals_with, fate_of}
use Rattle.fx_steps.specs.Waiting.{Wait, zeros_for, holder_counts, link_counts}

-- nothing is held or on a link, these crossings are pending, and the packet was tallied this number of times, with this
-- number of its records unassigned
abbrev pub state_of_tallies : Net → Packet → ℕ → ℕ → List Coming → State
state_of_tallies net p tallies unassigned coming = record {
  coming = coming;
  held = nothing_at net.holders;
  carried = nothing_at net.links;
  totals = totals_with tallies (key_of net.report_layout p.fields) (one_packet p) [];
  unassigned = unassigned;
}

-- the steps lead to a state with these records in transit and these crossings pending; combined with the fates required
-- of these records, the packet has this fate
pub record UnderWay (net : Net) (n : Numbering) (classes : List Class) (p : Packet) (coming : List Coming) (fate : Fate)
    (steps : List Step) (xs : List Pending) : Type 0 where
  pub tallies : ℕ
  pub unassigned : ℕ
  pub runs : run net classes (p ∷ []) steps (opening net classes (p ∷ []))
      ≡ Ok (with_items (one_packet p) (pending_items net n p.fields xs)
      (state_of_tallies net p tallies unassigned coming))
  pub joint : both (fate_of tallies unassigned) (total_fate xs) ≡ fate
  pub few : tallies ≤ length steps

-- the table was filled for these fields
pub record HasCosts (t : Tables) (fields : Fields) (table : CostTable) : Type 0 where
  pub before : CostTable
  pub room : length before ≡ length t.net.processes
  pub filled : table ≡ cost_fill t.net t.numbering fields t.order before

-- everything is available from which a run of the packet is built: the table filled for the packet, and the holders'
-- names
pub record IsPrepared (c : PacketCosts) (names : List HolderName) : Type 0 where
  pub tables : AreTables c.tables
  pub runnable : IsRunnable c.tables.net
  pub filled : HasCosts c.tables c.packet.fields c.table
  pub named : NameAll c.tables.net names

-- these records can leave, after this number of steps, within the limit
pub record CanLeave (table : CostTable) (net : Net) (n : Numbering) (steps : ℕ) (xs : List Pending) (w : Waiting) : Type
    0 where
  pub there : AllByRecursion (IsThere net n) xs
  pub waiting : Wait net xs w
  pub few : steps + total_cost table net n xs ≤ step_limit

-- this is the step of a record that was added after all of these
abbrev pub IsStepOf : CostTable → Net → Numbering → Fields → List Pending → Pending → Step → Type 0
IsStepOf table net n fields xs (AtHolder holder f) step =
    (name : HolderName) × (count : ℕ) × (holder_place net name ≡ Some holder)
    × (slice_get (holder_counts (zeros_for net.holders) xs) holder ≡ Some count)
    × (step ≡ Expire name (suc count) (step_choices table net n fields (AtHolder holder f)))
IsStepOf table net n fields xs (OnLink link number f) step =
    (count : ℕ) × (slice_get (link_counts (zeros_for net.links) xs) link ≡ Some count)
    × (step ≡ Arrive (suc link) (suc count) (step_choices table net n fields (OnLink link number f)))

-- this step was made, and these records are in transit after it
pub record Leaves (table : CostTable) (net : Net) (n : Numbering) (fields : Fields) (xs : List Pending) (x : Pending)
    (old new : List Step) : Type 0 where
  pub step : Step
  pub is : IsStepOf table net n fields xs x step
  pub last : new ≡ old ++ step ∷ []

-- this is the step by which the last record added leaves; the resulting records are appended to those in transit, but
-- not yet counted as waiting
pub record TopLeaves (c : PacketCosts) (old new : Building) (x : Pending) (step : Step) : Type 0 where
  pub is : IsStepOf c.table c.tables.net c.tables.numbering c.packet.fields old.plan.pending.items x step
  pub pending : new.plan.pending.items ≡ old.plan.pending.items
      ++ step_pending c.table c.tables.net c.tables.numbering c.packet.fields x
  pub waiting : Wait c.tables.net old.plan.pending.items new.waiting
