use Rattle.std.proofs.Common.{ap, sym, ◌∙◌, subst}
use Rattle.lru.specs.LruCache.{LruCache}
use Rattle.fx_base.specs.declared.counts.Counts.{Counts}
use Rattle.fx_layout.specs.Keys.{Key}
use Rattle.fx_store.specs.Flows.{Flows, flows_of}
use Rattle.fx_store.specs.Recent.{AreKeysOf}
use Rattle.fx_store.proofs.Recency.{counted, without_is}
use Rattle.fx_store.proofs.Orders.{kept_remove}
use Rattle.fx_store.proofs.bounded.BoundedStoreFlowStore.take.Goals as goal

pub invariant_of-self : goal.invariant_of-self
invariant_of-self c =
    let es = c.self.inside.recent.entries in
    let k = c.new-key.result in
    let left = ap (λ (y : LruCache Key Counts). flows_of y.entries) c.pop.ensures.entries
    ∙ without_is k es c.len-held.ensures.valid.0 in
    subst (λ (f : Flows). AreKeysOf f c.remove.new.self.keys) (sym left)
    (kept_remove (flows_of es) k c.self.inside.order.keys c.remove.new.self.keys c.self.invariant
    c.remove.ensures.updates.0)

pub returns-clause-value : goal.returns-clause-value
returns-clause-value c = rw (← c.self.view_is, ← c.copy.ensures, ← c.new-key.ensures)
    (c.pop.ensures.value ∙ sym (counted _ _))

pub returns-clause-rest : goal.returns-clause-rest
returns-clause-rest c =
    rw (← c.self.view_is, ← c.copy.ensures, ← c.new-key.ensures)
    (ap (λ (y : LruCache Key Counts). flows_of y.entries) c.pop.ensures.entries
    ∙ without_is c.new-key.result c.self.inside.recent.entries c.len-held.ensures.valid.0)
