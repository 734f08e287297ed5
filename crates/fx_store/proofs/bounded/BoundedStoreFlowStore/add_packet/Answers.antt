use Rattle.std.proofs.Common.{◌≡◌, List, Option, Some, None, is_some, sym, ap, ◌∙◌, subst}
use Rattle.std.specs.FinMap.{get}
use Rattle.std.specs.Map.{set_value}
use Rattle.lru.specs.LruCache.{promoted}
use Rattle.fx_layout.specs.Keys.{Key, same_key}
use Rattle.fx_store.specs.Flows.{Entry, Flows, flows_of, Adds, with_more}
use Rattle.fx_store.specs.Recent.{Recent, AreKeysOf, counts_at, pushed_out}
use Rattle.fx_store.proofs.Recency.{adds_recent, adds_if, counted, not_counted}
use Rattle.fx_store.proofs.Orders.{written_held, kept_held}
use Rattle.fx_store.proofs.bounded.BoundedStoreFlowStore.add_packet.Goals as goal

pub invariant_of-self : goal.invariant_of-self
invariant_of-self c =
    let es = c.self.inside.recent.entries in
    let n = c.self.inside.recent.cap in
    let k = c.become_of_packet.new.self in
    let x = c.args.counts in
    let valid = c.len-held.ensures.valid in
    let r : Recent = record { entries = es; capacity = n } in
    let before : counts_at es k ≡ Some c.in-Some.held.now = sym c.in-Some.ensures.value in
    let p = written_held es n k c.in-Some.held.now x c.add.result valid.1 before c.add.ensures in
    let adds : Adds (flows_of es) (flows_of (set_value (same_key k) (promoted (same_key k) es) c.add.result)) k x None =
    subst (λ (o : Option Entry). Adds (flows_of es)
    (flows_of (set_value (same_key k) (promoted (same_key k) es) c.add.result)) k x o) p.1
    (subst (λ (l : List Entry). Adds (flows_of es) (flows_of l) k x (pushed_out r k x)) (sym p.0)
    (adds_recent r k x valid.0 valid.1 valid.2)) in
    subst (λ (f : Flows). AreKeysOf f c.self.inside.order.keys) (sym adds.flows)
    (kept_held (flows_of es) k (with_more (get (flows_of es) k) x) c.self.inside.order.keys c.self.invariant
    (ap is_some (counted k es ∙ before)))

pub returns-clause-ok : goal.returns-clause-ok
returns-clause-ok c =
    let es = c.self.inside.recent.entries in
    let n = c.self.inside.recent.cap in
    let k = c.become_of_packet.new.self in
    let x = c.args.counts in
    let valid = c.len-held.ensures.valid in
    let r : Recent = record { entries = es; capacity = n } in
    let before : counts_at es k ≡ Some c.in-Some.held.now = sym c.in-Some.ensures.value in
    let p = written_held es n k c.in-Some.held.now x c.add.result valid.1 before c.add.ensures in
    let adds : Adds (flows_of es) (flows_of (set_value (same_key k) (promoted (same_key k) es) c.add.result)) k x None =
    subst (λ (o : Option Entry). Adds (flows_of es)
    (flows_of (set_value (same_key k) (promoted (same_key k) es) c.add.result)) k x o) p.1
    (subst (λ (l : List Entry). Adds (flows_of es) (flows_of l) k x (pushed_out r k x)) (sym p.0)
    (adds_recent r k x valid.0 valid.1 valid.2)) in
    rw (← c.self.view_is, ← c.become_of_packet.ensures) adds

pub returns-clause-recent : goal.returns-clause-recent
returns-clause-recent c =
    let es = c.self.inside.recent.entries in
    let n = c.self.inside.recent.cap in
    let k = c.become_of_packet.new.self in
    let before : counts_at es k ≡ Some c.in-Some.held.now = sym c.in-Some.ensures.value in
    let p = written_held es n k c.in-Some.held.now c.args.counts c.add.result c.len-held.ensures.valid.1 before
    c.add.ensures in
    rw (← c.self.view_is, ← c.become_of_packet.ensures)
    (ap (λ (l : List Entry). record { entries = l; capacity = n }) p.0)

pub returns-clause-leaves : goal.returns-clause-leaves
returns-clause-leaves c =
    let es = c.self.inside.recent.entries in
    let k = c.become_of_packet.new.self in
    let before : counts_at es k ≡ Some c.in-Some.held.now = sym c.in-Some.ensures.value in
    sym (written_held es c.self.inside.recent.cap k c.in-Some.held.now c.args.counts c.add.result
    c.len-held.ensures.valid.1 before c.add.ensures).1
    ∙ ap (λ (r : Recent). pushed_out r k c.args.counts) c.self.view_is
    ∙ ap (λ (j : Key). pushed_out c.args.self.now j c.args.counts) c.become_of_packet.ensures

pub returns-in-None-clause-ok : goal.returns-in-None-clause-ok
returns-in-None-clause-ok c =
    let r : Recent = record { entries = c.self.inside.recent.entries; capacity = c.self.inside.recent.cap } in
    let valid = c.len-held.ensures.valid in
    rw (← c.self.view_is, ← c.become_of_packet.ensures, ← c.copy-key.ensures)
    (adds_if r c.add_new.new.self c.copy-key.result c.args.counts c.add_new.result valid.0 valid.1 valid.2
    c.add_new.ensures.recent c.add_new.ensures.leaves)

pub returns-in-None-clause-held : goal.returns-in-None-clause-held
returns-in-None-clause-held c = rw (← c.self.view_is, ← c.become_of_packet.ensures)
    (not_counted _ _ (sym c.in-None.ensures.value))
