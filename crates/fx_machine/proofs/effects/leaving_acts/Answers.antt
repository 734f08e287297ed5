use Rattle.std.proofs.Common.{◌≡◌, ◌∙◌, ap, List, Some, slice_get, subst, sym}
use Rattle.fx_tables.specs.declared.record.Record.{Record}
use Rattle.fx_tables.specs.declared.holding.Holding.{Holding}
use Rattle.fx_run_text.specs.declared.step.Step.TheVariants.{Expire}
use Rattle.fx_machine.specs.declared.effects.Tally.TheVariants.{Untallied}
use Rattle.fx_machine.specs.States.{State}
use Rattle.fx_machine.specs.Effects.{IsHandled}
use Rattle.fx_machine.proofs.StepEffects.{leaving_handled}
use Rattle.fx_machine.proofs.effects.leaving_acts.Goals as goal

pub returns-clause-ok : goal.returns-clause-ok
returns-clause-ok c s e classes packets choices =
    let net = c.args.net.now in
    let held = c.args.store.now.held in
    let rs = c.in-Some-entry_at.records.now in
    let there : Some rs ≡ slice_get held c.in-Some.index = c.in-Some-entry_at.ensures
    ∙ ap (λ (rss : List (List Record)). slice_get rss c.in-Some.index) c.held.ensures in
    subst (λ (hs : List Holding). IsHandled net classes packets (Expire c.args.holder c.args.position choices) s
    Untallied c.named_by.result.now hs) (sym c.new.ensures.items)
    (leaving_handled net classes packets c.args.holder c.args.position choices s held c.in-Some.index rs
    c.in-Some-record_numbered._found.now c.named_by.result.now (ap (λ (t : State). t.held) e) c.in-Some.ensures
    there c.in-Some-record_numbered.ensures c.named_by.ensures)
