use Rattle.std.proofs.Common.{◌∙◌, ◌&&◌, Bool, ap, ap₂, List}
use Rattle.fx_tables.specs.declared.record.Record.{Record}
use Rattle.fx_machine.specs.States.{all_empty}
use Rattle.fx_machine.specs.Comings.{all_crossed}
use Rattle.fx_machine.proofs.Crossings.{complete_is}
use Rattle.fx_machine.proofs.store.Store.complete.Goals as goal

pub returns : goal.returns
returns c =
    let in' = c.self.inside in
    let e = c.nothing_left.ensures ∙ ap₂ (λ (fs : List (List Bool)) (h : List (List Record)). all_crossed fs &&
    all_empty h && all_empty c.as_slice-3.result.now) c.as_slice.ensures.value c.as_slice-2.ensures.value
    ∙ ap (λ (h : List (List Record)). all_crossed in'.to_come.items && all_empty in'.held.items && all_empty h)
    c.as_slice-3.ensures.value in
    rw (← c.self.view_is) (complete_is in'.to_come.items in'.held.items in'.carried.items in'.totals.items
    in'.unassigned c.nothing_left.result e)
