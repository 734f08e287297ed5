use Rattle.std.proofs.Common.{◌≡◌, ◌⊎◌, ◌∙◌, inl, inr, ap, List, sym, subst, Ok, Err, Some}
use Rattle.std.proofs.lemmas.Result.{IfOk-weaker, IfErr-weaker}
use Rattle.fx_base.specs.Fault.{fault_at, IsMemory}
use Rattle.fx_base.specs.declared.fault.Fault.{Fault}
use Rattle.fx_base.specs.declared.fault.Place.TheVariants as places
use Rattle.fx_base.specs.Refusals.{want_of_memory, wrong_choices}
use Rattle.fx_tables.specs.declared.record.Record.{Record}
use Rattle.fx_machine.specs.Acts.{Choices}
use Rattle.fx_machine.specs.States.{State, wrapped_state}
use Rattle.fx_machine.specs.Steps.{after}
use Rattle.fx_machine.specs.Effects.{Effects, choices_of, effects_of, AreChosen, CannotBeChosen}
use Rattle.fx_machine.proofs.StepEffects.{has_effects, has_none}
use Rattle.fx_machine.proofs.effects.step_effects.Goals as goal

pub returns-clause-ok : goal.returns-clause-ok
returns-clause-ok c =
    let net = c.args.net.now in
    let classes = c.args.classes.now in
    let packets = c.args.packets.now in
    let step = c.args.step.now in
    let a = c.in_ok-asked.asked in
    let Given : Effects → Type 0 = AreChosen net c.held.result.now a.tally a.exporters.now a.holdings.items
    c.choices_of.result.now in
    let Wanted : Effects → Type 0 = λ e. (s : State) → c.args.store.now ≡ wrapped_state s
    → ((next : State) × (after net classes packets step s ≡ Ok next))
    × (effects_of net classes packets step s ≡ Some e) in
    IfOk-weaker c.effects_by.result Given Wanted (λ (e : Effects) (given : Given e) s reported.
    let held : c.held.result.now ≡ s.held = c.held.ensures ∙ ap (λ (t : State). t.held) reported in
    let chosen : AreChosen net s.held a.tally a.exporters.now a.holdings.items (choices_of step) e =
    subst (λ (cs : Choices). AreChosen net s.held a.tally a.exporters.now a.holdings.items cs e) c.choices_of.ensures
    (subst (λ (h : List (List Record)). AreChosen net h a.tally a.exporters.now a.holdings.items
    c.choices_of.result.now e) held given) in
    has_effects net classes packets step s a.tally a.exporters.now a.holdings.items
    (c.in_ok-asked.ensures.ok s reported) e chosen) c.effects_by.ensures.ok

pub returns-clause-err : goal.returns-clause-err
returns-clause-err c =
    let net = c.args.net.now in
    let classes = c.args.classes.now in
    let packets = c.args.packets.now in
    let step = c.args.step.now in
    let a = c.in_ok-asked.asked in
    let Cannot : Type 0 = CannotBeChosen net c.held.result.now a.exporters.now a.holdings.items c.choices_of.result.now
    in
    let Given : Fault → Type 0 = λ e. IsMemory e ⊎ ((e ≡ fault_at wrong_choices places.None) × Cannot) in
    let Wanted : Fault → Type 0 = λ e. (e.place ≡ places.None)
    × ((e.number ≡ want_of_memory) ⊎ ((s : State) → c.args.store.now ≡ wrapped_state s
    → after net classes packets step s ≡ Err e.number)) in
    IfErr-weaker c.effects_by.result Given Wanted (λ (e : Fault) (given : Given e). elim given [
      | inl memory ↦ (ap (λ (f : Fault). f.place) memory, inl (ap (λ (f : Fault). f.number) memory))
      | inr wrong ↦ (
        ap (λ (f : Fault). f.place) wrong.0,
        inr (λ s reported.
            let held : c.held.result.now ≡ s.held = c.held.ensures ∙ ap (λ (t : State). t.held) reported in
            let cannot : CannotBeChosen net s.held a.exporters.now a.holdings.items (choices_of step) =
            subst (λ (cs : Choices). CannotBeChosen net s.held a.exporters.now a.holdings.items cs) c.choices_of.ensures
            (subst (λ (h : List (List Record)). CannotBeChosen net h a.exporters.now a.holdings.items
            c.choices_of.result.now) held wrong.1) in
            has_none net classes packets step s a.tally a.exporters.now a.holdings.items
            (c.in_ok-asked.ensures.ok s reported) cannot ∙ ap (λ (f : Fault). Err f.number) (sym wrong.0)),
      )
    ]) c.effects_by.ensures.err
