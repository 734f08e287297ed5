-- The keys in order beside the entries by recency.
use Rattle.std.proofs.Common.{◌≡◌, ℕ, zero, suc, ◌-◌, ◌<◌, ◌≤◌, Bool, true, false, cond, List, [], ◌∷◌, length, take, slice_get, Option, Some, None, is_some, IsSome, IfSome, refl, sym, ap, ◌∙◌, subst, arith}
use Rattle.std.specs.List.{list_any}
use Rattle.std.specs.Option.{option_map_or}
use Rattle.std.specs.BTreeMap.{is_at}
use Rattle.std.specs.Map.{set_value}
use Rattle.std.specs.Ordering.{is_gt, eq_by_cmp}
use Rattle.std.specs.Cmp.{eq_by_cmp_equiv}
use Rattle.std.specs.FinMap.{get, insert, remove, contains_key, get-insert, get-remove, same_map}
use Rattle.std.proofs.lemmas.List.{take_all}
use Rattle.std.proofs.lemmas.Map.Views.{tells_apart}
use Rattle.fx_base.specs.declared.counts.Counts.{Counts}
use Rattle.fx_layout.specs.Keys.{Key, same_key}
use Rattle.fx_layout.proofs.Projections.{key_same}
use Rattle.lru.specs.LruCache.{lru_cache, put_entries, displaced, promoted}
use Rattle.fx_store.specs.Order.{key_cmp}
use Rattle.fx_store.specs.KeyOrder.{key_cmp_total, key_cmp_apart}
use Rattle.fx_store.specs.Flows.{Entry, Flows, flows_of, least, without, with_added, with_more, Adds}
use Rattle.fx_store.specs.Recent.{AreKeysOf, counts_at, without_key, with_latest}
use Rattle.fx_store.proofs.FlowMaps.{found, least_is, least_none}
use Rattle.fx_store.proofs.Recency.{counted, entry_at, no_entry_at}

-- ---- what the cache does is what the definition says

pub put_held : (es : List Entry) (n : ℕ) (k : Key) (before c : Counts) → length es ≤ n → counts_at es k ≡ Some before
    → (put_entries same_key (lru_cache es n) k (with_more (Some before) c) ≡ take n (with_latest es k c))
    × (slice_get (with_latest es k c) n ≡ None)
put_held es n k before c room h =
    let on = entry_at k es before h in
    let list : with_latest es k c ≡ (k, with_more (Some before) c) ∷ without_key es k = λ i. (k, with_more (h i) c)
    ∷ without_key es k in
    let fits : length (with_latest es k c) ≤ n = omega (arith, on.1) in (
      ap (λ (o : Option Entry). option_map_or (λ (e : Entry). (e.0, with_more (Some before) c) ∷ without_key es k) o
          ((k, with_more (Some before) c) ∷ take (n - 1) es)) on.0 ∙ sym list
          ∙ sym (take_all n (with_latest es k c) fits),
      past (with_latest es k c) n fits,
    )
  where
    past : (xs : List Entry) (i : ℕ) → length xs ≤ i → slice_get xs i ≡ None
    past [] i h = refl
    past (x ∷ xs) zero h = absurd (omega arith)
    past (x ∷ xs) (suc i) h = past xs i (omega arith)

-- counts that are written in place of what was found are put there
pub written_held : (es : List Entry) (n : ℕ) (k : Key) (before c v : Counts) → length es ≤ n → counts_at es k
    ≡ Some before → v ≡ with_more (Some before) c
    → (set_value (same_key k) (promoted (same_key k) es) v ≡ take n (with_latest es k c))
    × (slice_get (with_latest es k c) n ≡ None)
written_held es n k before c v room h is =
    let on = (entry_at k es before h).0 in
    let put = put_held es n k before c room h in
    let first : set_value (same_key k) (promoted (same_key k) es) v
    ≡ set_value (same_key k) ((k, before) ∷ without_key es k) v =
    ap (λ (o : Option Entry). set_value (same_key k) (option_map_or (λ (e : Entry). e ∷ without_key es k) o es) v)
    on in
    let written : set_value (same_key k) ((k, before) ∷ without_key es k) v ≡ (k, v) ∷ without_key es k =
    ap (λ (b : Bool). cond b ((k, v) ∷ without_key es k)
    ((k, before) ∷ set_value (same_key k) (without_key es k) v)) (key_same k) in
    let made : put_entries same_key (lru_cache es n) k v ≡ (k, v) ∷ without_key es k =
    ap (λ (o : Option Entry). option_map_or (λ (e : Entry). (e.0, v) ∷ without_key es k) o
    ((k, v) ∷ take (n - 1) es)) on in
    (first ∙ written ∙ sym made ∙ ap (put_entries same_key (lru_cache es n) k) is ∙ put.0, put.1)

pub put_new : (es : List Entry) (n : ℕ) (k : Key) (c : Counts) → 0 < n → counts_at es k ≡ None
    → (put_entries same_key (lru_cache es n) k c ≡ take n (with_latest es k c))
    × (displaced same_key (lru_cache es n) k c ≡ slice_get (with_latest es k c) n)
put_new es n k c some h =
    let on = no_entry_at k es h in
    let list : with_latest es k c ≡ (k, c) ∷ es = λ i. (k, with_more (h i) c) ∷ on.1 i in
    let one : suc (n - 1) ≡ n = omega arith in
    let made : put_entries same_key (lru_cache es n) k c ≡ (k, c) ∷ take (n - 1) es =
    ap (λ (o : Option Entry). option_map_or (λ (e : Entry). (e.0, c) ∷ without_key es k) o
    ((k, c) ∷ take (n - 1) es)) on.0 in
    let out : displaced same_key (lru_cache es n) k c ≡ slice_get es (n - 1) =
    ap (λ (o : Option Counts). option_map_or (λ (old : Counts). Some (k, old)) o (slice_get es (n - 1))) h in (
      made ∙ ap (λ (i : ℕ). take i ((k, c) ∷ es)) one ∙ ap (take n) (sym list),
      out
          ∙ ap (λ (i : ℕ). slice_get ((k, c) ∷ es) i) one ∙ ap (λ (l : List Entry). slice_get l n) (sym list),
    )

-- ---- the keys

flip : (k q : Key) (x y : Bool) → cond (is_at (key_cmp k) q) x y ≡ cond (eq_by_cmp key_cmp q k) x y
flip k q x y = ap (λ b. cond b x y) ((eq_by_cmp_equiv key_cmp_total).symm k q)

has_inserted : (m : Flows) (k q : Key) (v : Counts) → contains_key (insert m k v) q
    ≡ cond (eq_by_cmp key_cmp q k) true (contains_key m q)
has_inserted m k q v = ap is_some (get-insert key_cmp_total m k v q)
    ∙ elim (eq_by_cmp key_cmp q k) as (λ b. is_some (cond b (Some v) (get m q)) ≡ cond b true (is_some (get m q)))
    [ true ↦ refl | false ↦ refl ]

has_left : (m : Flows) (k q : Key) → contains_key (remove m k) q ≡ cond (eq_by_cmp key_cmp q k) false (contains_key m q)
has_left m k q = ap is_some (get-remove key_cmp_total m k q)
    ∙ elim (eq_by_cmp key_cmp q k) as (λ b. is_some (cond b None (get m q)) ≡ cond b false (is_some (get m q)))
    [ true ↦ refl | false ↦ refl ]

pub kept_insert : (m : Flows) (k : Key) (v : Counts) (ks js : List Key) → AreKeysOf m ks
    → ((q : Key) → list_any (is_at (key_cmp q)) js ≡ cond (is_at (key_cmp k) q) true (list_any (is_at (key_cmp q)) ks))
    → AreKeysOf (insert m k v) js
kept_insert m k v ks js kept h q = h q ∙ flip k q _ _ ∙ ap (cond (eq_by_cmp key_cmp q k) true) (kept q)
    ∙ sym (has_inserted m k q v)

pub kept_remove : (m : Flows) (k : Key) (ks js : List Key) → AreKeysOf m ks
    → ((q : Key) → list_any (is_at (key_cmp q)) js ≡ cond (is_at (key_cmp k) q) false (list_any (is_at (key_cmp q)) ks))
    → AreKeysOf (remove m k) js
kept_remove m k ks js kept h q = h q ∙ flip k q _ _ ∙ ap (cond (eq_by_cmp key_cmp q k) false) (kept q)
    ∙ sym (has_left m k q)

-- a key that is there has new counts
pub kept_held : (m : Flows) (k : Key) (v : Counts) (ks : List Key) → AreKeysOf m ks → IsSome (get m k)
    → AreKeysOf (insert m k v) ks
kept_held m k v ks kept there q =
    kept q ∙ (elim (eq_by_cmp key_cmp q k) as (λ b. eq_by_cmp key_cmp q k ≡ b → contains_key m q
    ≡ cond b true (contains_key m q)) [
      | true ↦ λ t. subst (λ (x : Key). contains_key m x ≡ true) (sym (same q t)) there
      | false ↦ λ t. refl
    ]) refl ∙ sym (has_inserted m k q v)
  where
    same : (q : Key) → eq_by_cmp key_cmp q k ≡ true → q ≡ k
    same q t = tells_apart key_cmp_apart q k t

-- ---- a key more, and another one less

apart : (m : Flows) (k e : Key) → get m k ≡ None → IsSome (get m e) → eq_by_cmp key_cmp k e ≡ false
apart m k e none some =
    (elim (eq_by_cmp key_cmp k e) as (λ b. eq_by_cmp key_cmp k e ≡ b → b ≡ false) [
      | true ↦ λ t. let no : is_some (get m e) ≡ false =
          ap (λ (x : Key). is_some (get m x)) (sym (tells_apart key_cmp_apart k e t)) ∙ ap is_some none in sym some ∙ no
      | false ↦ λ t. refl
    ]) refl

swapped : (m : Flows) (k e : Key) (v : Counts) → eq_by_cmp key_cmp k e ≡ false → remove (insert m k v) e
    ≡ insert (remove m e) k v
swapped m k e v far =
    same_map key_cmp_total key_cmp_apart _ _
    (λ q. get-remove key_cmp_total (insert m k v) e q
    ∙ ap (cond (eq_by_cmp key_cmp q e) None) (get-insert key_cmp_total m k v q) ∙ at q
    ∙ ap (cond (eq_by_cmp key_cmp q k) (Some v)) (sym (get-remove key_cmp_total m e q))
    ∙ sym (get-insert key_cmp_total (remove m e) k v q))
  where
    at : (q : Key) → cond (eq_by_cmp key_cmp q e) None (cond (eq_by_cmp key_cmp q k) (Some v) (get m q))
        ≡ cond (eq_by_cmp key_cmp q k) (Some v) (cond (eq_by_cmp key_cmp q e) None (get m q))
    at q =
        (elim (eq_by_cmp key_cmp q e) as (λ b. eq_by_cmp key_cmp q e ≡ b
        → cond b None (cond (eq_by_cmp key_cmp q k) (Some v) (get m q))
        ≡ cond (eq_by_cmp key_cmp q k) (Some v) (cond b None (get m q))) [
          | true ↦ λ t. let other : eq_by_cmp key_cmp q k ≡ false =
              ap (λ (x : Key). eq_by_cmp key_cmp x k) (tells_apart key_cmp_apart q e t)
              ∙ (eq_by_cmp_equiv key_cmp_total).symm e k ∙ far in sym (ap (λ b. cond b (Some v) None) other)
          | false ↦ λ t. refl
        ]) refl

-- the keys after an addition at a new key
pub kept_alone : (m n : Flows) (k : Key) (c : Counts) (left : Option Entry) (ks js : List Key) → Adds m n k c left
    → left ≡ None → AreKeysOf m ks → ((q : Key) → list_any (is_at (key_cmp q)) js
    ≡ cond (is_at (key_cmp k) q) true (list_any (is_at (key_cmp q)) ks)) → AreKeysOf n js
kept_alone m n k c left ks js a none kept h =
    let now : n ≡ with_added m k c = a.flows ∙ ap (λ (o : Option Entry). with_added (without m o) k c) none in
    subst (λ (f : Flows). AreKeysOf f js) (sym now) (kept_insert m k (with_more (get m k) c) ks js kept h)

pub kept_swap : (m n : Flows) (k : Key) (c : Counts) (left : Option Entry) (e : Entry) (ks js ls : List Key)
    → Adds m n k c left → left ≡ Some e → AreKeysOf m ks
    → ((q : Key) → list_any (is_at (key_cmp q)) js ≡ cond (is_at (key_cmp k) q) true (list_any (is_at (key_cmp q)) ks))
    → ((q : Key) → list_any (is_at (key_cmp q)) ls
    ≡ cond (is_at (key_cmp e.0) q) false (list_any (is_at (key_cmp q)) js)) → AreKeysOf n ls
kept_swap m n k c left e ks js ls a one kept h g =
    let whole = subst (λ (o : Option Entry). IfSome o (λ x. (get m k ≡ None) × (get m x.0 ≡ Some x.1))) one a.whole in
    let v : Counts = with_more (get (remove m e.0) k) c in
    let now : n ≡ insert (remove m e.0) k v = a.flows ∙ ap (λ (o : Option Entry). with_added (without m o) k c) one in
    let far : eq_by_cmp key_cmp k e.0 ≡ false = apart m k e.0 whole.0 (ap is_some whole.1) in
    subst (λ (f : Flows). AreKeysOf f ls) (swapped m k e.0 v far ∙ sym now)
    (kept_remove (insert m k v) e.0 js ls (kept_insert m k v ks js kept h) g)

-- a key that was put in and taken out again
pub kept_back : (m : Flows) (k : Key) (ks js ls : List Key) → AreKeysOf m ks → get m k ≡ None
    → ((q : Key) → list_any (is_at (key_cmp q)) js ≡ cond (is_at (key_cmp k) q) true (list_any (is_at (key_cmp q)) ks))
    → ((q : Key) → list_any (is_at (key_cmp q)) ls ≡ cond (is_at (key_cmp k) q) false (list_any (is_at (key_cmp q)) js))
    → AreKeysOf m ls
kept_back m k ks js ls kept none h g q =
    g q ∙ flip k q _ _ ∙ ap (cond (eq_by_cmp key_cmp q k) false)
    (h q ∙ flip k q _ _ ∙ ap (cond (eq_by_cmp key_cmp q k) true) (kept q))
    ∙ (elim (eq_by_cmp key_cmp q k) as (λ b. eq_by_cmp key_cmp q k ≡ b
    → cond b false (cond b true (contains_key m q)) ≡ contains_key m q) [
      | true ↦ λ t. sym (ap (λ (x : Key). contains_key m x) (tells_apart key_cmp_apart q k t) ∙ ap is_some none)
      | false ↦ λ t. refl
    ]) refl

-- ---- answers

pub no_answer : {X : Type 0} (e : Entry) → None ≡ Some e → X
no_answer e h = absurd (cc)

pub answer_key : (k j : Key) (v w : Counts) → ◌≡◌ {A = Option Entry} (Some (k, v)) (Some (j, w)) → k ≡ j
answer_key k j v w h = ap (λ (o : Option Entry). option_map_or (λ (e : Entry). e.0) o k) h

-- ---- the least key

pub least_of_none : (es : List Entry) (ks : List Key) → AreKeysOf (flows_of es) ks → ks ≡ [] → least (flows_of es)
    ≡ None
least_of_none [] ks kept none = least_none [] (λ h. absurd (omega arith))
least_of_none (e ∷ es) ks kept none =
    let here : contains_key (flows_of (e ∷ es)) e.0 ≡ true = has_inserted (flows_of es) e.0 e.0 e.1
    ∙ ap (λ b. cond b true (contains_key (flows_of es) e.0)) ((eq_by_cmp_equiv key_cmp_total).refl e.0) in
    let no : false ≡ true = ap (λ (l : List Key). list_any (eq_by_cmp key_cmp e.0) l) (sym none) ∙ kept e.0 ∙ here in
    absurd (cc)

pub nothing_in : (ks : List Key) → (0 < length ks → false ≡ true) → ks ≡ []
nothing_in [] h = refl
nothing_in (k ∷ ks) h = let no : false ≡ true = h (omega arith) in absurd (cc)

-- a key that no key is below is the least, with what stands at it
pub least_kept : (es : List Entry) (ks : List Key) (k : Key) → AreKeysOf (flows_of es) ks
    → list_any (is_at (key_cmp k)) ks ≡ true
    → ((q : Key) → list_any (is_at (key_cmp q)) ks ≡ true → is_gt (key_cmp k q) ≡ false) → (v : Counts)
    × (counts_at es k ≡ Some v) × (least (flows_of es) ≡ Some (k, v))
least_kept es ks k kept here low = by_counts (get (flows_of es) k) refl
  where
    by_counts : (o : Option Counts) → get (flows_of es) k ≡ o → (v : Counts) × (counts_at es k ≡ Some v)
        × (least (flows_of es) ≡ Some (k, v))
    by_counts None h = let no : true ≡ false = sym here ∙ kept k ∙ ap is_some h in absurd (cc)
    by_counts (Some v) h = (
      v,
      sym (counted k es)
          ∙ h,
      least_is es k v (sym (found k es) ∙ h) (λ q there. low q (kept q ∙ ap is_some (found q es) ∙ there)),
    )
