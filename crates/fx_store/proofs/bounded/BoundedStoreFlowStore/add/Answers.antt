use Rattle.std.proofs.Common.{◌≡◌, ◌<◌, ◌≤◌, length, List, Option, Some, None, is_some, take, sym, ap, ◌∙◌, subst}
use Rattle.std.specs.FinMap.{get}
use Rattle.lru.specs.LruCache.{LruCache, put_entries}
use Rattle.fx_base.specs.declared.counts.Counts.{Counts}
use Rattle.fx_layout.specs.Keys.{Key, same_key}
use Rattle.fx_store.specs.Flows.{Entry, Flows, flows_of, Adds, with_more}
use Rattle.fx_store.specs.Recent.{Recent, AreKeysOf, counts_at, with_latest, pushed_out}
use Rattle.fx_store.proofs.Recency.{AreDistinct, adds_recent, adds_if, counted, not_counted}
use Rattle.fx_store.proofs.Orders.{put_held, kept_held}
use Rattle.fx_store.proofs.bounded.BoundedStoreFlowStore.add.Goals as goal

pub invariant_of-self-in-Some : goal.invariant_of-self-in-Some
invariant_of-self-in-Some c =
    let es = c.self.inside.recent.entries in
    let n = c.self.inside.recent.cap in
    let k = c.new-key.result in
    let x = c.args.counts in
    let valid = c.len-held.ensures.valid in
    let r : Recent = record { entries = es; capacity = n } in
    let before : counts_at es k ≡ Some c.in-Some.before = sym c.peek.ensures ∙ sym c.in-Some.ensures in
    let p = put_held es n k c.in-Some.before x valid.1 before in
    let now : c.put.new.self.entries ≡ take n (with_latest es k x) =
    ap (λ (y : LruCache Key Counts). y.entries) c.in_ok-put-in-Some.ensures.entries
    ∙ ap (put_entries same_key c.self.inside.recent k) c.add.ensures ∙ p.0 in
    let adds : Adds (flows_of es) (flows_of c.put.new.self.entries) k x None =
    subst (λ (o : Option Entry). Adds (flows_of es) (flows_of c.put.new.self.entries) k x o) p.1
    (subst (λ (l : List Entry). Adds (flows_of es) (flows_of l) k x (pushed_out r k x)) (sym now)
    (adds_recent r k x valid.0 valid.1 valid.2)) in
    subst (λ (f : Flows). AreKeysOf f c.self.inside.order.keys) (sym adds.flows)
    (kept_held (flows_of es) k (with_more (get (flows_of es) k) x) c.self.inside.order.keys c.self.invariant
    (ap is_some (counted k es ∙ before)))

pub returns-in_ok-put-in-Some-clause-ok : goal.returns-in_ok-put-in-Some-clause-ok
returns-in_ok-put-in-Some-clause-ok c =
    let es = c.self.inside.recent.entries in
    let n = c.self.inside.recent.cap in
    let k = c.new-key.result in
    let x = c.args.counts in
    let valid = c.len-held.ensures.valid in
    let r : Recent = record { entries = es; capacity = n } in
    let before : counts_at es k ≡ Some c.in-Some.before = sym c.peek.ensures ∙ sym c.in-Some.ensures in
    let p = put_held es n k c.in-Some.before x valid.1 before in
    let now : c.put.new.self.entries ≡ take n (with_latest es k x) =
    ap (λ (y : LruCache Key Counts). y.entries) c.in_ok-put-in-Some.ensures.entries
    ∙ ap (put_entries same_key c.self.inside.recent k) c.add.ensures ∙ p.0 in
    let adds : Adds (flows_of es) (flows_of c.put.new.self.entries) k x None =
    subst (λ (o : Option Entry). Adds (flows_of es) (flows_of c.put.new.self.entries) k x o) p.1
    (subst (λ (l : List Entry). Adds (flows_of es) (flows_of l) k x (pushed_out r k x)) (sym now)
    (adds_recent r k x valid.0 valid.1 valid.2)) in
    rw (← c.self.view_is, ← c.new-key.ensures) adds

pub returns-in_ok-put-in-Some-clause-recent : goal.returns-in_ok-put-in-Some-clause-recent
returns-in_ok-put-in-Some-clause-recent c =
    let es = c.self.inside.recent.entries in
    let n = c.self.inside.recent.cap in
    let k = c.new-key.result in
    let x = c.args.counts in
    let before : counts_at es k ≡ Some c.in-Some.before = sym c.peek.ensures ∙ sym c.in-Some.ensures in
    let p = put_held es n k c.in-Some.before x c.len-held.ensures.valid.1 before in
    let now : c.put.new.self ≡ record { entries = take n (with_latest es k x); cap = n } =
    c.in_ok-put-in-Some.ensures.entries ∙ ap (λ (l : List Entry). record { entries = l; cap = n })
    (ap (put_entries same_key c.self.inside.recent k) c.add.ensures ∙ p.0) in
    rw (← c.self.view_is, ← c.new-key.ensures)
    (ap (λ (y : LruCache Key Counts). record { entries = y.entries; capacity = y.cap }) now)

pub returns-in_ok-put-in-Some-clause-leaves : goal.returns-in_ok-put-in-Some-clause-leaves
returns-in_ok-put-in-Some-clause-leaves c =
    let es = c.self.inside.recent.entries in
    let k = c.new-key.result in
    let before : counts_at es k ≡ Some c.in-Some.before = sym c.peek.ensures ∙ sym c.in-Some.ensures in
    sym (put_held es c.self.inside.recent.cap k c.in-Some.before c.args.counts c.len-held.ensures.valid.1 before).1
    ∙ ap (λ (r : Recent). pushed_out r k c.args.counts) c.self.view_is
    ∙ ap (λ (j : Key). pushed_out c.args.self.now j c.args.counts) c.new-key.ensures

pub returns-in-None-clause-ok : goal.returns-in-None-clause-ok
returns-in-None-clause-ok c =
    let now = c.args.self.now in
    let valid = c.len-held.ensures.valid in
    let distinct : AreDistinct now.entries = subst (λ (r : Recent). AreDistinct r.entries) c.self.view_is valid.0 in
    let room : length now.entries ≤ now.capacity =
    subst (λ (r : Recent). length r.entries ≤ r.capacity) c.self.view_is valid.1 in
    let some : 0 < now.capacity = subst (λ (r : Recent). 0 < r.capacity) c.self.view_is valid.2 in
    rw (← c.new-key.ensures) (adds_if now c.add_new.new.self c.new-key.result c.args.counts c.add_new.result distinct
    room some c.add_new.ensures.recent c.add_new.ensures.leaves)

pub returns-in-None-clause-held : goal.returns-in-None-clause-held
returns-in-None-clause-held c = rw (← c.self.view_is, ← c.new-key.ensures)
    (not_counted _ _ (sym c.peek.ensures ∙ sym c.in-None.ensures))
