use Rattle.std.proofs.Common.{None, sym, ◌∙◌, subst}
use Rattle.fx_store.specs.Flows.{Flows, flows_of}
use Rattle.fx_store.specs.Recent.{AreKeysOf}
use Rattle.fx_store.proofs.FlowMaps.{remove_is}
use Rattle.fx_store.proofs.Hashed.{updated_by_order, no_counts, entry_with}
use Rattle.fx_store.proofs.Orders.{kept_remove, least_kept, least_of_none, nothing_in}
use Rattle.fx_store.proofs.list.ListStoreFlowStore.take_least.Goals as goal

pub returns-in_err-key-clause-value : goal.returns-in_err-key-clause-value
returns-in_err-key-clause-value c =
    rw (← c.self.view_is) (c.from_residual.ensures
    ∙ sym (least_of_none c.self.inside.flows.entries c.self.inside.order.keys c.self.invariant
    (nothing_in _ c.in_err-key.ensures.variant.1)))

pub invariant_of-self-in_err-counts : goal.invariant_of-self-in_err-counts
invariant_of-self-in_err-counts c =
    let top = least_kept c.self.inside.flows.entries c.self.inside.order.keys c.in_ok-key.key c.self.invariant
    c.in_ok-key.ensures.member c.in_ok-key.ensures.least in
    no_counts top.0 (c.in_err-counts.ensures.value ∙ top.1)

pub returns-in_err-counts-clause-value : goal.returns-in_err-counts-clause-value
returns-in_err-counts-clause-value c =
    let top = least_kept c.self.inside.flows.entries c.self.inside.order.keys c.in_ok-key.key c.self.invariant
    c.in_ok-key.ensures.member c.in_ok-key.ensures.least in
    no_counts top.0 (c.in_err-counts.ensures.value ∙ top.1)

pub returns-in_err-counts-clause-rest : goal.returns-in_err-counts-clause-rest
returns-in_err-counts-clause-rest c =
    let top = least_kept c.self.inside.flows.entries c.self.inside.order.keys c.in_ok-key.key c.self.invariant
    c.in_ok-key.ensures.member c.in_ok-key.ensures.least in
    no_counts top.0 (c.in_err-counts.ensures.value ∙ top.1)

pub invariant_of-self-2 : goal.invariant_of-self-2
invariant_of-self-2 c =
    let es = c.self.inside.flows.entries in
    let left = c.swap_remove.new.self.entries in
    let k = c.in_ok-key.key in
    subst (λ (f : Flows). AreKeysOf f c.pop_first.new.self.keys)
    (sym (remove_is es left k (updated_by_order es left k None c.in_ok-counts.ensures.updates.0)))
    (kept_remove (flows_of es) k c.self.inside.order.keys c.pop_first.new.self.keys c.self.invariant
    c.in_ok-key.ensures.updates.0)

pub returns-clause-value : goal.returns-clause-value
returns-clause-value c =
    let k = c.in_ok-key.key in
    let top = least_kept c.self.inside.flows.entries c.self.inside.order.keys k c.self.invariant
    c.in_ok-key.ensures.member c.in_ok-key.ensures.least in
    rw (← c.self.view_is, c.into_key.ensures)
    (entry_with k c.in_ok-counts.counts top.0 (c.in_ok-counts.ensures.value ∙ top.1) ∙ sym top.2)

pub returns-clause-rest : goal.returns-clause-rest
returns-clause-rest c =
    let es = c.self.inside.flows.entries in
    let left = c.swap_remove.new.self.entries in
    let k = c.in_ok-key.key in
    rw (← c.self.view_is, c.into_key.ensures)
    (remove_is es left k (updated_by_order es left k None c.in_ok-counts.ensures.updates.0))
