use Rattle.std.proofs.Common.{◌≡◌, List, Some, None, take, sym, ap, ◌∙◌, subst}
use Rattle.lru.specs.LruCache.{LruCache, lru_cache}
use Rattle.fx_base.specs.declared.counts.Counts.{Counts}
use Rattle.fx_layout.specs.Keys.{Key}
use Rattle.fx_store.specs.Flows.{Entry, flows_of, Adds}
use Rattle.fx_store.specs.Recent.{Recent, counts_at, with_latest, after_add, pushed_out}
use Rattle.fx_store.proofs.Recency.{adds_recent, counted}
use Rattle.fx_store.proofs.Orders.{put_new, kept_alone, kept_swap, kept_back}
use Rattle.fx_store.proofs.bounded.BoundedStore.add_new.Goals as goal

pub invariant_of-self-in-Ok-None : goal.invariant_of-self-in-Ok-None
invariant_of-self-in-Ok-None c =
    let es = c.self.inside.recent.entries in
    let n = c.self.inside.recent.cap in
    let k = c.args.key in
    let x = c.args.counts in
    let none : counts_at es k ≡ None = ap (λ (r : Recent). counts_at r.entries k) c.self.view_is ∙ c.requires in
    let p = put_new es n k x c.len-held.ensures.valid.2 none in
    let valid = c.len-held.ensures.valid in
    let r : Recent = record { entries = es; capacity = n } in
    let adds : Adds (flows_of es) (flows_of c.push.new.self.entries) k x (pushed_out r k x) =
    subst (λ (l : List Entry). Adds (flows_of es) (flows_of l) k x (pushed_out r k x))
    (sym (ap (λ (y : LruCache Key Counts). y.entries) c.in-Ok-None.ensures.entries ∙ p.0))
    (adds_recent r k x valid.0 valid.1 valid.2) in
    let put = rw c.copy.ensures at c.in_ok-insert.ensures.updates.0 in
    let out : pushed_out r k x ≡ None = sym (sym c.in-Ok-None.field-0-is ∙ c.in-Ok-None.ensures.old ∙ p.1) in
    kept_alone (flows_of es) _ k x _ c.self.inside.order.keys c.insert.new.self.keys adds out c.self.invariant put

pub invariant_of-self-in-Ok-Some : goal.invariant_of-self-in-Ok-Some
invariant_of-self-in-Ok-Some c =
    let es = c.self.inside.recent.entries in
    let n = c.self.inside.recent.cap in
    let k = c.args.key in
    let x = c.args.counts in
    let none : counts_at es k ≡ None = ap (λ (r : Recent). counts_at r.entries k) c.self.view_is ∙ c.requires in
    let p = put_new es n k x c.len-held.ensures.valid.2 none in
    let valid = c.len-held.ensures.valid in
    let r : Recent = record { entries = es; capacity = n } in
    let adds : Adds (flows_of es) (flows_of c.push.new.self.entries) k x (pushed_out r k x) =
    subst (λ (l : List Entry). Adds (flows_of es) (flows_of l) k x (pushed_out r k x))
    (sym (ap (λ (y : LruCache Key Counts). y.entries) c.in-Ok-Some.ensures.entries ∙ p.0))
    (adds_recent r k x valid.0 valid.1 valid.2) in
    let put = rw c.copy.ensures at c.in_ok-insert.ensures.updates.0 in
    let e : Entry = (c.in-Ok-Some.oldest, c.in-Ok-Some.counts) in
    let out : pushed_out r k x ≡ Some e = sym (sym c.in-Ok-Some.field-0-is ∙ c.in-Ok-Some.ensures.old ∙ p.1) in
    kept_swap (flows_of es) _ k x _ e c.self.inside.order.keys c.insert.new.self.keys c.remove.new.self.keys adds out
    c.self.invariant put c.remove.ensures.updates.0

pub invariant_of-self-in-Err : goal.invariant_of-self-in-Err
invariant_of-self-in-Err c =
    let es = c.self.inside.recent.entries in
    let k = c.args.key in
    let none : counts_at es k ≡ None = ap (λ (r : Recent). counts_at r.entries k) c.self.view_is ∙ c.requires in
    let put = rw c.copy.ensures at c.in_ok-insert.ensures.updates.0 in
    let taken = rw (ap (λ (p : Key × Counts). p.0) c.in-Err.ensures.value_returned) at c.remove-in-Err.ensures.updates.0
    in
    rw c.in-Err.ensures.err (kept_back (flows_of es) k c.self.inside.order.keys c.insert.new.self.keys
    c.remove-in-Err.new.self.keys c.self.invariant (counted k es ∙ none) put taken)

pub returns-in-Ok-None-clause-recent : goal.returns-in-Ok-None-clause-recent
returns-in-Ok-None-clause-recent c =
    let es = c.self.inside.recent.entries in
    let n = c.self.inside.recent.cap in
    let k = c.args.key in
    let x = c.args.counts in
    let none : counts_at es k ≡ None = ap (λ (r : Recent). counts_at r.entries k) c.self.view_is ∙ c.requires in
    let p = put_new es n k x c.len-held.ensures.valid.2 none in
    let now : c.push.new.self ≡ lru_cache (take n (with_latest es k x)) n = c.in-Ok-None.ensures.entries
    ∙ ap (λ (l : List Entry). lru_cache l n) p.0 in
    ap (λ (y : LruCache Key Counts). record { entries = y.entries; capacity = y.cap }) now
    ∙ ap (λ (r : Recent). after_add r k x) c.self.view_is

pub returns-in-Ok-None-clause-leaves : goal.returns-in-Ok-None-clause-leaves
returns-in-Ok-None-clause-leaves c =
    let es = c.self.inside.recent.entries in
    let n = c.self.inside.recent.cap in
    let k = c.args.key in
    let x = c.args.counts in
    let none : counts_at es k ≡ None = ap (λ (r : Recent). counts_at r.entries k) c.self.view_is ∙ c.requires in
    let p = put_new es n k x c.len-held.ensures.valid.2 none in
    sym c.in-Ok-None.field-0-is ∙ c.in-Ok-None.ensures.old ∙ p.1 ∙ ap (λ (r : Recent). pushed_out r k x) c.self.view_is

pub returns-in-Ok-Some-clause-recent : goal.returns-in-Ok-Some-clause-recent
returns-in-Ok-Some-clause-recent c =
    let es = c.self.inside.recent.entries in
    let n = c.self.inside.recent.cap in
    let k = c.args.key in
    let x = c.args.counts in
    let none : counts_at es k ≡ None = ap (λ (r : Recent). counts_at r.entries k) c.self.view_is ∙ c.requires in
    let p = put_new es n k x c.len-held.ensures.valid.2 none in
    let now : c.push.new.self ≡ lru_cache (take n (with_latest es k x)) n = c.in-Ok-Some.ensures.entries
    ∙ ap (λ (l : List Entry). lru_cache l n) p.0 in
    ap (λ (y : LruCache Key Counts). record { entries = y.entries; capacity = y.cap }) now
    ∙ ap (λ (r : Recent). after_add r k x) c.self.view_is

pub returns-in-Ok-Some-clause-leaves : goal.returns-in-Ok-Some-clause-leaves
returns-in-Ok-Some-clause-leaves c =
    let es = c.self.inside.recent.entries in
    let n = c.self.inside.recent.cap in
    let k = c.args.key in
    let x = c.args.counts in
    let none : counts_at es k ≡ None = ap (λ (r : Recent). counts_at r.entries k) c.self.view_is ∙ c.requires in
    let p = put_new es n k x c.len-held.ensures.valid.2 none in
    ap (λ (j : Key). Some (j, c.in-Ok-Some.counts)) c.into_key.ensures ∙ sym c.in-Ok-Some.field-0-is
    ∙ c.in-Ok-Some.ensures.old ∙ p.1 ∙ ap (λ (r : Recent). pushed_out r k x) c.self.view_is
