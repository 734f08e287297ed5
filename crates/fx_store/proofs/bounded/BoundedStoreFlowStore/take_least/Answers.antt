use Rattle.std.proofs.Common.{◌≡◌, ap, sym, ◌∙◌, subst}
use Rattle.lru.specs.LruCache.{LruCache}
use Rattle.fx_base.specs.declared.counts.Counts.{Counts}
use Rattle.fx_layout.specs.Keys.{Key}
use Rattle.std.specs.FinMap.{remove}
use Rattle.fx_store.specs.Flows.{Flows, flows_of}
use Rattle.fx_store.specs.Recent.{Recent, AreKeysOf, without_key}
use Rattle.fx_store.proofs.Recency.{entry_at, without_is}
use Rattle.fx_store.proofs.Orders.{kept_remove, least_kept, least_of_none, nothing_in, no_answer, answer_key}
use Rattle.fx_store.proofs.bounded.BoundedStoreFlowStore.take_least.Goals as goal

pub returns-in_err-key-clause-value : goal.returns-in_err-key-clause-value
returns-in_err-key-clause-value c =
    rw (← c.self.view_is) (c.from_residual.ensures
    ∙ sym (least_of_none c.self.inside.recent.entries c.self.inside.order.keys c.self.invariant
    (nothing_in _ c.in_err-key.ensures.variant.1)))

pub invariant_of-self-in_err-key-2 : goal.invariant_of-self-in_err-key-2
invariant_of-self-in_err-key-2 c =
    let es = c.self.inside.recent.entries in
    let k = c.in_ok-key.key in
    let top = least_kept es c.self.inside.order.keys k c.self.invariant c.in_ok-key.ensures.member
    c.in_ok-key.ensures.least in
    let e = entry_at k es top.0 top.1 in
    no_answer (k, top.0) (c.in_err-key-2.ensures.value ∙ e.0)

pub returns-in_err-key-2-clause-value : goal.returns-in_err-key-2-clause-value
returns-in_err-key-2-clause-value c =
    let es = c.self.inside.recent.entries in
    let k = c.in_ok-key.key in
    let top = least_kept es c.self.inside.order.keys k c.self.invariant c.in_ok-key.ensures.member
    c.in_ok-key.ensures.least in
    let e = entry_at k es top.0 top.1 in
    no_answer (k, top.0) (c.in_err-key-2.ensures.value ∙ e.0)

pub returns-in_err-key-2-clause-rest : goal.returns-in_err-key-2-clause-rest
returns-in_err-key-2-clause-rest c =
    let es = c.self.inside.recent.entries in
    let k = c.in_ok-key.key in
    let top = least_kept es c.self.inside.order.keys k c.self.invariant c.in_ok-key.ensures.member
    c.in_ok-key.ensures.least in
    let e = entry_at k es top.0 top.1 in
    no_answer (k, top.0) (c.in_err-key-2.ensures.value ∙ e.0)

pub returns-in_err-key-2-clause-none : goal.returns-in_err-key-2-clause-none
returns-in_err-key-2-clause-none c =
    let es = c.self.inside.recent.entries in
    let k = c.in_ok-key.key in
    let top = least_kept es c.self.inside.order.keys k c.self.invariant c.in_ok-key.ensures.member
    c.in_ok-key.ensures.least in
    let e = entry_at k es top.0 top.1 in
    no_answer (k, top.0) (c.in_err-key-2.ensures.value ∙ e.0)

pub invariant_of-self-2 : goal.invariant_of-self-2
invariant_of-self-2 c =
    let es = c.self.inside.recent.entries in
    let k = c.in_ok-key.key in
    let left = ap (λ (y : LruCache Key Counts). flows_of y.entries) c.in_ok-key-2.ensures.entries
    ∙ without_is k es c.len-held.ensures.valid.0 in
    subst (λ (f : Flows). AreKeysOf f c.pop_first.new.self.keys) (sym left)
    (kept_remove (flows_of es) k c.self.inside.order.keys c.pop_first.new.self.keys c.self.invariant
    c.in_ok-key.ensures.updates.0)

pub returns-clause-value : goal.returns-clause-value
returns-clause-value c =
    let es = c.self.inside.recent.entries in
    let k = c.in_ok-key.key in
    let top = least_kept es c.self.inside.order.keys k c.self.invariant c.in_ok-key.ensures.member
    c.in_ok-key.ensures.least in
    let e = entry_at k es top.0 top.1 in
    rw (← c.self.view_is, c.into_key.ensures) (c.in_ok-key-2.ensures.value ∙ e.0 ∙ sym top.2)

pub returns-clause-rest : goal.returns-clause-rest
returns-clause-rest c =
    let es = c.self.inside.recent.entries in
    let k = c.in_ok-key.key in
    let top = least_kept es c.self.inside.order.keys k c.self.invariant c.in_ok-key.ensures.member
    c.in_ok-key.ensures.least in
    let e = entry_at k es top.0 top.1 in
    let key : c.in_ok-key-2.key ≡ k = answer_key _ _ _ _ (c.in_ok-key-2.ensures.value ∙ e.0) in
    rw (← c.self.view_is, c.into_key.ensures)
    (ap (λ (y : LruCache Key Counts). flows_of y.entries) c.in_ok-key-2.ensures.entries
    ∙ without_is k es c.len-held.ensures.valid.0 ∙ ap (remove (flows_of es)) (sym key))

pub returns-clause-recent : goal.returns-clause-recent
returns-clause-recent c =
    let es = c.self.inside.recent.entries in
    let k = c.in_ok-key.key in
    let top = least_kept es c.self.inside.order.keys k c.self.invariant c.in_ok-key.ensures.member
    c.in_ok-key.ensures.least in
    let e = entry_at k es top.0 top.1 in
    let key : c.in_ok-key-2.key ≡ k = answer_key _ _ _ _ (c.in_ok-key-2.ensures.value ∙ e.0) in
    let at : (j : Key) → Recent = λ j. record { entries = without_key es j; capacity = c.self.inside.recent.cap } in
    ap (λ (y : LruCache Key Counts). record { entries = y.entries; capacity = y.cap }) c.in_ok-key-2.ensures.entries
    ∙ ap at (sym (c.into_key.ensures ∙ key))
    ∙ ap (λ (r : Recent). record r { entries = without_key r.entries c.into_key.result }) c.self.view_is
