use Rattle.std.proofs.Common.{None, sym, ◌∙◌, subst}
use Rattle.fx_store.specs.Flows.{Flows, flows_of}
use Rattle.fx_store.specs.Recent.{AreKeysOf}
use Rattle.fx_store.proofs.FlowMaps.{remove_is}
use Rattle.fx_store.proofs.Recency.{counted}
use Rattle.fx_store.proofs.Hashed.{updated_by_order}
use Rattle.fx_store.proofs.Orders.{kept_remove}
use Rattle.fx_store.proofs.list.ListStoreFlowStore.take.Goals as goal

pub invariant_of-self : goal.invariant_of-self
invariant_of-self c =
    let es = c.self.inside.flows.entries in
    let left = c.swap_remove.new.self.entries in
    let k = c.new-key.result in
    subst (λ (f : Flows). AreKeysOf f c.remove.new.self.keys)
    (sym (remove_is es left k (updated_by_order es left k None c.swap_remove.ensures.updates.0)))
    (kept_remove (flows_of es) k c.self.inside.order.keys c.remove.new.self.keys c.self.invariant
    c.remove.ensures.updates.0)

pub returns-clause-value : goal.returns-clause-value
returns-clause-value c = rw (← c.self.view_is, ← c.copy.ensures, ← c.new-key.ensures)
    (c.swap_remove.ensures.value ∙ sym (counted _ _))

pub returns-clause-rest : goal.returns-clause-rest
returns-clause-rest c =
    rw (← c.self.view_is, ← c.copy.ensures, ← c.new-key.ensures)
    (remove_is _ _ _ (updated_by_order _ _ _ None c.swap_remove.ensures.updates.0))
