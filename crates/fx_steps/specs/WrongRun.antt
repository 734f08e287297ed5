-- Runs of one packet that demonstrate a wrong total.
use Rattle.std.specs.Prelude.{◌≡◌, ◌≢◌, ◌≤◌, ℕ, Bool, List, [], ◌∷◌, length, Ok}
use Rattle.fx_elements.specs.Axes.{Fields}
use Rattle.fx_tables.specs.declared.packet.Packet.{Packet}
use Rattle.fx_run_text.specs.declared.step.Step.{Step}
use Rattle.fx_tables.specs.declared.traffic.Crossing.{Crossing}
use Rattle.fx_machine.specs.Claim.{CountsEachOnce}
use Rattle.fx_tables.specs.Classes.{Class, to_count}
use Rattle.fx_tables.specs.Network.{Net}
use Rattle.fx_machine.specs.States.{State, opening, Complete}
use Rattle.fx_machine.specs.Steps.{run}
use Rattle.fx_leaf.specs.declared.verdict.Fate.{Fate}
use Rattle.fx_leaf.specs.Fates.{wanted_fate}
use Rattle.fx_machine.specs.Limits.{step_limit}
use Rattle.fx_steps.specs.Ways.{PacketComes}

-- the steps, no more than a run may have, lead from the opening state of this one packet to a complete state, in which
-- the packet isn't counted as it should be
pub record IsWrongRun (net : Net) (classes : List Class) (p : Packet) (steps : List Step) : Type 0 where
  pub last : State
  pub runs : run net classes (p ∷ []) steps (opening net classes (p ∷ [])) ≡ Ok last
  pub complete : Complete last
  pub wrong : CountsEachOnce net (to_count classes (p ∷ [])) last → ⊥
  pub few : length steps ≤ step_limit

-- a packet with these fields, on this path, needs at least this number of steps to have a fate other than the required
-- one
abbrev pub IsLeast : Net → Fields → List Crossing → Bool → ℕ → Type 0
IsLeast net fields path exempt number =
    (f : Fate) (n : ℕ) → f ≢ wanted_fate exempt → PacketComes net fields path f n → number ≤ n

-- the packet can't have a fate other than the required one within the largest number of steps of a run
abbrev pub HasNoRun : Net → Fields → List Crossing → Bool → Type 0
HasNoRun net fields path exempt =
    (f : Fate) (n : ℕ) → f ≢ wanted_fate exempt → n ≤ step_limit → PacketComes net fields path f n → ⊥
