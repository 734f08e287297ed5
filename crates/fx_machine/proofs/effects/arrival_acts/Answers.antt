use Rattle.std.proofs.Common.{◌≡◌, ◌∙◌, ap, List, Some, slice_get}
use Rattle.fx_tables.specs.declared.record.Record.{Record}
use Rattle.fx_machine.specs.States.{State}
use Rattle.fx_machine.proofs.StepEffects.{arrival_handled}
use Rattle.fx_machine.proofs.effects.arrival_acts.Goals as goal

pub returns-clause-ok : goal.returns-clause-ok
returns-clause-ok c s e classes packets choices =
    let net = c.args.net.now in
    let carried = c.args.store.now.carried in
    let rs = c.in-Some-entry_at.records.now in
    let h = c.in_ok-handling.handling in
    let there : Some rs ≡ slice_get carried c.in-Some.index = c.in-Some-entry_at.ensures
    ∙ ap (λ (rss : List (List Record)). slice_get rss c.in-Some.index) c.carried.ensures in
    arrival_handled net classes packets c.args.link c.args.position choices s carried c.in-Some.index rs
    c.in-Some-record_numbered.found.now c.tally_when.result h.tallies h.exporters.now h.holdings.items
    (ap (λ (t : State). t.carried) e) c.in-Some.ensures there c.in-Some-record_numbered.ensures
    c.in_ok-handling.ensures c.tally_when.ensures
