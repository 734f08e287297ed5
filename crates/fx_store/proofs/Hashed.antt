-- What look-ups by a hash say, reported by the order of keys.
use Rattle.std.proofs.Common.{◌≡◌, Bool, cond, List, Option, Some, None, IsSome, is_some, option_map, sym, ap, ◌∙◌, subst}
use Rattle.std.specs.FinMap.{get}
use Rattle.std.specs.Map.{lookup}
use Rattle.std.specs.BTreeMap.{is_at}
use Rattle.fx_base.specs.declared.counts.Counts.{Counts}
use Rattle.fx_layout.specs.Keys.{Key, same_key}
use Rattle.fx_store.specs.Order.{key_cmp}
use Rattle.fx_store.specs.KeyOrder.{same_key_ties}
use Rattle.fx_store.specs.Flows.{Entry, Flows, flows_of, with_more, Adds}
use Rattle.fx_store.specs.Recent.{AreKeysOf, counts_at}
use Rattle.fx_store.proofs.FlowMaps.{adds_alone}
use Rattle.fx_store.proofs.Orders.{kept_held}
use Rattle.fx_store.proofs.Recency.{same_test, counted}

-- the same counts are found either way
pub found_by_order : (q : Key) (es : List Entry) → lookup (is_at (key_cmp q)) es ≡ counts_at es q
found_by_order q es = ap (λ (t : Key → Bool). lookup t es) (sym (same_test q))

pub updated_by_order : (m n : List Entry) (k : Key) (w : Option Counts)
    → ((q : Key) → counts_at n q ≡ cond (same_key k q) w (counts_at m q)) → (q : Key) → lookup (is_at (key_cmp q)) n
    ≡ cond (is_at (key_cmp k) q) w (lookup (is_at (key_cmp q)) m)
updated_by_order m n k w h q =
    found_by_order q n ∙ h q ∙ ap (λ b. cond b w (counts_at m q)) (same_key_ties k q)
    ∙ ap (λ (t : Key → Bool). cond (is_at (key_cmp k) q) w (lookup t m)) (same_test q)

-- counts put at a key that wasn't there are added there
pub adds_new : (m n : List Entry) (k : Key) (c : Counts) → counts_at m k ≡ None
    → ((q : Key) → counts_at n q ≡ cond (same_key k q) (Some c) (counts_at m q))
    → Adds (flows_of m) (flows_of n) k c None
adds_new m n k c none h =
    adds_alone m n k c c (updated_by_order m n k (Some c) h)
    (ap (λ (o : Option Counts). with_more o c) (sym (found_by_order k m ∙ none)))

-- and so are those that stand in place of what was counted there
pub adds_more : (m n : List Entry) (k : Key) (c v : Counts) → v ≡ with_more (counts_at m k) c
    → ((q : Key) → counts_at n q ≡ cond (same_key k q) (Some v) (counts_at m q))
    → Adds (flows_of m) (flows_of n) k c None
adds_more m n k c v is h =
    adds_alone m n k c v (updated_by_order m n k (Some v) h)
    (is ∙ ap (λ (o : Option Counts). with_more o c) (sym (found_by_order k m)))

-- the keys are those of the flows still
pub kept_more : (m n : List Entry) (k : Key) (c : Counts) (ks : List Key) → IsSome (counts_at m k)
    → Adds (flows_of m) (flows_of n) k c None → AreKeysOf (flows_of m) ks → AreKeysOf (flows_of n) ks
kept_more m n k c ks there adds kept =
    subst (λ (f : Flows). AreKeysOf f ks) (sym adds.flows)
    (kept_held (flows_of m) k (with_more (get (flows_of m) k) c) ks kept (ap is_some (counted k m) ∙ there))

pub no_counts : {X : Type 0} (v : Counts) → None ≡ Some v → X
no_counts v h = absurd (cc)

pub entry_with : (k : Key) (v w : Counts) → Some v ≡ Some w → ◌≡◌ {A = Option Entry} (Some (k, v)) (Some (k, w))
entry_with k v w h = ap (λ (o : Option Counts). option_map (λ (x : Counts). (k, x)) o) h
