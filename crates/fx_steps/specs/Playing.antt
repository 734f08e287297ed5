-- Runs of one packet.
use Rattle.std.specs.Prelude.{◌≡◌, ◌≢◌, ℕ, zero, suc, List, [], ◌∷◌, length, Ok}
use Rattle.fx_base.specs.declared.counts.Counts.{Counts}
use Rattle.fx_layout.specs.Keys.{Key}
use Rattle.fx_tables.specs.declared.packet.Packet.{Packet}
use Rattle.fx_tables.specs.declared.record.Record.{Record}
use Rattle.fx_run_text.specs.declared.step.Step.{Step}
use Rattle.fx_tables.specs.Network.{Net}
use Rattle.fx_base.specs.Entries.{entry_numbered}
use Rattle.fx_tables.specs.Classes.{Class, exempts, to_count}
use Rattle.fx_machine.specs.Claim.{CountsEachOnce}
use Rattle.fx_machine.specs.States.{State, opening, Complete, add_at}
use Rattle.fx_machine.specs.Steps.{run}
use Rattle.fx_leaf.specs.declared.verdict.Fate.{Fate}
use Rattle.fx_leaf.specs.declared.verdict.Fate.TheVariants.{Never, Once, Many, Unassigned}
use Rattle.fx_leaf.specs.Fates.{wanted_fate}

-- the totals with the counts tallied this number of times under a key
abbrev pub totals_with : ℕ → Key → Counts → List Record → List Record
totals_with zero key counts ts = ts
totals_with (suc n) key counts ts = totals_with n key counts (add_at ts key counts)

-- the fate of a packet tallied this number of times, with this number of its records unassigned
abbrev pub fate_of : ℕ → ℕ → Fate
fate_of tallies (suc unassigned) = Unassigned
fate_of zero zero = Never
fate_of (suc zero) zero = Once
fate_of (suc (suc tallies)) zero = Many

-- steps that lead from the opening state of this one packet to a complete state, in which the packet has this fate;
-- if another fate is required, that state doesn't count the packet as it should
pub record RunOf (net : Net) (classes : List Class) (p : Packet) (fate : Fate) (number : ℕ) : Type 0 where
  pub steps : List Step
  pub final : State
  pub runs : run net classes (p ∷ []) steps (opening net classes (p ∷ [])) ≡ Ok final
  pub complete : Complete final
  pub number_is : length steps ≡ number
  pub wrong : fate ≢ wanted_fate (exempts (entry_numbered classes p.class))
      → CountsEachOnce net (to_count classes (p ∷ [])) final → ⊥
