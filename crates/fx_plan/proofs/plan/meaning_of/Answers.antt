use Rattle.std.proofs.Common.{◌≡◌, ◌⊎◌, ◌<◌, ◌≤◌, List, length, sym, subst, inl, inr}
use Rattle.fx_base.specs.Fault.{fault_at, IsMemory}
use Rattle.fx_base.specs.Refusals.{too_many_layouts}
use Rattle.fx_base.specs.declared.fault.Fault.{Fault}
use Rattle.fx_base.specs.declared.fault.Place.TheVariants as places
use Rattle.fx_layout.specs.Keys.{Layout}
use Rattle.fx_tables.specs.Limits.{layout_limit}
use Rattle.fx_tables.specs.Matches.{AreEntries}
use Rattle.fx_tables.specs.Network.{Net}
use Rattle.fx_tables.specs.Runnable.{IsRunnable}
use Rattle.fx_topology.specs.declared.network.NetworkDocument.{NetworkDocument}
use Rattle.fx_plan.specs.Layouts.{layouts_of}
use Rattle.fx_plan.specs.Plans.{IsCycle, IsResolved, RefusesNetwork}
use Rattle.fx_plan.specs.Tables.{net_of}
use Rattle.fx_plan.proofs.Numberings.{exit_with}
use Rattle.fx_plan.proofs.plan.meaning_of.Goals as goal

by_layouts : (network : NetworkDocument) (net : Net) (e : Fault) → net ≡ net_of network → IsMemory e
    ⊎ ((e ≡ fault_at too_many_layouts places.None) × (layout_limit < length (layouts_of net))) → IsMemory e
    ⊎ RefusesNetwork network e
by_layouts network net e is why = elim why [
  | inl m ↦ inl m
  | inr f ↦ inr (inl (f.0, subst (λ (n : Net). layout_limit < length (layouts_of n)) is f.1))
]

by_cycle : (network : NetworkDocument) (net : Net) (layouts : List Layout) (e : Fault) → net ≡ net_of network → layouts
    ≡ layouts_of net → length layouts ≤ layout_limit → IsMemory e ⊎ IsCycle network e → IsMemory e
    ⊎ RefusesNetwork network e
by_cycle network net layouts e is layouts_are few why =
    let few_of : length (layouts_of net) ≤ layout_limit =
    subst (λ (l : List Layout). length l ≤ layout_limit) layouts_are few in
    elim why [
      | inl m ↦ inl m
      | inr cycle ↦ inr (inr (subst (λ (n : Net). length (layouts_of n) ≤ layout_limit) is few_of, cycle))
    ]

pub returns-in_err-numbering-clause-err : goal.returns-in_err-numbering-clause-err
returns-in_err-numbering-clause-err c =
    exit_with _ _ _ c.from_residual-in_err-numbering.ensures
    (by_layouts c.args.network.now c.in_ok-net.net _ c.in_ok-net.ensures c.in_err-numbering.ensures.err)

pub ranks_of-requires-clause-resolved : goal.ranks_of-requires-clause-resolved
ranks_of-requires-clause-resolved c = subst (λ (n : Net). IsResolved n) (sym c.in_ok-net.ensures) c.requires.resolved

pub returns-in_err-ranks-clause-err : goal.returns-in_err-ranks-clause-err
returns-in_err-ranks-clause-err c =
    exit_with _ _ _ c.from_residual-in_err-ranks.ensures
    (by_cycle c.args.network.now c.in_ok-net.net c.in_ok-numbering.numbering.layouts.items _ c.in_ok-net.ensures
    c.in_ok-numbering.ensures.layouts c.in_ok-numbering.ensures.few c.in_err-ranks.ensures.err)

pub returns-clause-plan : goal.returns-clause-plan
returns-clause-plan c =
    let is = sym c.in_ok-net.ensures in
    let there : IsResolved c.in_ok-net.net = subst (λ (n : Net). IsResolved n) is c.requires.resolved in
    record {
      net_is = c.in_ok-net.ensures;
      report = there.report;
      whole = c.in_ok-ranks.ensures.whole;
      order_is = c.in_ok-ranks.ensures.order;
      fits = c.in_ok-numbering.ensures.fits;
      entries = subst (λ (n : Net). AreEntries n) is c.requires.entries;
      runnable = subst (λ (n : Net). IsRunnable n) is c.requires.runnable;
      layouts_are = c.in_ok-numbering.ensures.layouts;
      few = c.in_ok-numbering.ensures.few;
      numbers_are = c.in_ok-numbering.ensures.numbers;
    }
