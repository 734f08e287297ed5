use Rattle.std.proofs.Common.{◌≡◌, ◌⊎◌, ℕ, List, [], length, ◌≤◌, Result, Ok, Err, IsErr, IsErrAnd, refl, sym, ◌∙◌, subst, inl, inr}
use Rattle.serde_json.specs.Data.{Data}
use Rattle.serde_json.specs.View.{view}
use Rattle.fx_base.specs.Fault.{IsMemory}
use Rattle.fx_base.specs.declared.fault.Fault.{Fault}
use Rattle.fx_tables.specs.Matches.{AreEntries}
use Rattle.fx_tables.specs.Network.{Net}
use Rattle.fx_tables.specs.Runnable.{IsRunnable}
use Rattle.fx_plan.specs.Layouts.{layouts_of}
use Rattle.fx_plan.specs.Plans.{IsPlan, IsResolved, ReadsPlan, RefusesNetwork}
use Rattle.fx_topology.specs.Networks.{network_faults, network_of}
use Rattle.fx_ranks.specs.Ranks.{IsStuck}
use Rattle.fx_topology.specs.declared.network.NetworkDocument.{NetworkDocument}
use Rattle.fx_tables.specs.Limits.{layout_limit}
use Rattle.fx_layout.specs.Keys.{Layout}
use Rattle.fx_plan.specs.Tables.{net_of}
use Rattle.fx_plan.proofs.MatchesFit.{network_entries}
use Rattle.fx_plan.proofs.Resolution.{resolved}
use Rattle.fx_plan.proofs.Runnable.{runnable}
use Rattle.fx_plan.proofs.StuckProcesses.{none_are_stuck}
use Rattle.fx_plan.proofs.plan.read_plan.Goals as goal

-- the exit where the network is refused
refused : (d : Data) (network : NetworkDocument) (r : Result NetworkDocument Fault) (e : Fault) → IsErr r
    × IsErrAnd r (λ x. x ≡ e) → network_faults [] d ≡ [] → network ≡ network_of d → IsMemory e
    ⊎ RefusesNetwork network e → ReadsPlan d r
refused d network (Ok x) e h none is why = absurd h.1
refused d network (Err x) e h none is why =
    rw h.1
    (elim why [
      | inl m ↦ inl (rw m refl)
      | inr f ↦ inr (none, subst (λ (n : NetworkDocument). RefusesNetwork n e) is f)
    ])

-- the exit with a plan
planned : (d : Data) (network plan : NetworkDocument) (net : Net) (ranked order : List ℕ) (layouts : List Layout)
    (numbers : List ℕ) → network_faults [] d ≡ [] → network ≡ network_of d
    → IsPlan network net ranked order layouts numbers → plan ≡ network → ReadsPlan d (Ok plan)
planned d network plan net ranked order layouts numbers none is parts same =
    let few : length (layouts_of net) ≤ layout_limit =
    subst (λ (l : List Layout). length l ≤ layout_limit) parts.layouts_are parts.few in (
      none,
      same ∙ is,
      subst (λ (n : NetworkDocument). length (layouts_of (net_of n)) ≤ layout_limit) (sym same)
          (subst (λ (n : Net). length (layouts_of n) ≤ layout_limit) parts.net_is few),
      λ process stuck.
          none_are_stuck net ranked parts.whole process
          (subst (λ (n : Net). IsStuck n process) (sym parts.net_is)
          (subst (λ (n : NetworkDocument). IsStuck (net_of n) process) same stuck)),
    )

pub meaning_of-requires : goal.meaning_of-requires
meaning_of-requires c =
    let d = view c.args.value.now in
    let none = c.in_ok-network.ensures.0 in
    let is = sym c.in_ok-network.ensures.1 in
    record {
      resolved = subst (λ (n : NetworkDocument). IsResolved (net_of n)) is (resolved d none);
      entries = subst (λ (n : NetworkDocument). AreEntries (net_of n)) is (network_entries d);
      runnable = subst (λ (n : NetworkDocument). IsRunnable (net_of n)) is (runnable d none);
    }

pub plan_of_parts-requires : goal.plan_of_parts-requires
plan_of_parts-requires c = c.in_ok-meaning.ensures.plan

pub returns-in_err-meaning : goal.returns-in_err-meaning
returns-in_err-meaning c =
    refused (view c.args.value.now) c.in_ok-network.network _ _ c.from_residual-in_err-meaning.ensures
    c.in_ok-network.ensures.0 c.in_ok-network.ensures.1 c.in_err-meaning.ensures.err

pub returns : goal.returns
returns c =
    planned (view c.args.value.now) c.in_ok-network.network c.in_ok-plan.plan _ _ _ _ _ c.in_ok-network.ensures.0
    c.in_ok-network.ensures.1 c.in_ok-meaning.ensures.plan c.in_ok-plan.ensures
