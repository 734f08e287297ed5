-- Stores that counts are added to, or that entries are taken out of, stay usable.
use Rattle.std.proofs.Common.{◌≡◌, ℕ, zero, suc, ◌≤◌, min, eqb, Bool, true, false, cond, List, [], ◌∷◌, length, take, Option, Some, None, refl, sym, subst, arith}
use Rattle.std.specs.List.{AllByRecursion, IsDistinct}
use Rattle.std.specs.Map.{keys_of}
use Rattle.std.proofs.lemmas.Bool.{eq-eqb}
use Rattle.fx_base.specs.declared.counts.Counts.{Counts}
use Rattle.fx_layout.specs.Keys.{Key, same_key}
use Rattle.fx_layout.proofs.Projections.{same_key_is}
use Rattle.fx_store.specs.Flows.{Entry, Adds, flows_of}
use Rattle.fx_store.specs.Recent.{without_key, with_latest}
use Rattle.fx_store.proofs.Recency.{AreDistinct, adds_recent}
use Rattle.fx_net.specs.Stores.{Stored, unbounded, bounded, flows_in, new_store, with_counts, makes_room, without_entry}
use Rattle.fx_net.specs.Leaving.{taken_out}
use Rattle.fx_conform.specs.Usable.{IsUsable}

-- ---- new

pub new_is_usable : (max_flows : ℕ) → IsUsable (new_store max_flows)
unfolding IsDistinct
new_is_usable max_flows = by (eqb max_flows 0) refl where
  by : (b : Bool) → eqb max_flows 0 ≡ b → IsUsable
      (cond b (unbounded (flows_of [])) (bounded (record { entries = []; capacity = min max_flows 65536 })))
  by true e = tt
  by false e =
      let some : max_flows ≡ 0 → ⊥ = λ z. (let t = eq-eqb max_flows 0 z in absurd (cc)) in
      record { differ = tt; some = omega arith; room = omega arith }

-- ---- the keys of entries

-- a key that no entry has is no entry's key behind one that leaves
apart_left : (k key : Key) (es : List Entry) → AllByRecursion (λ (other : Key). same_key k other ≡ false) (keys_of es)
    → AllByRecursion (λ (other : Key). same_key k other ≡ false) (keys_of (without_key es key))
apart_left k key [] h = tt
apart_left k key (e ∷ es) h = by (apart_left k key es h.1) (same_key key e.0) where
  by : AllByRecursion (λ (other : Key). same_key k other ≡ false) (keys_of (without_key es key)) → (b : Bool)
      → AllByRecursion (λ (other : Key). same_key k other ≡ false) (keys_of (cond b es (e ∷ without_key es key)))
  by ih true = h.1
  by ih false = (h.0, ih)

pub distinct_left : (key : Key) (es : List Entry) → AreDistinct es → AreDistinct (without_key es key)
unfolding IsDistinct
distinct_left key [] d = tt
distinct_left key (e ∷ es) d = by (distinct_left key es d.1) (same_key key e.0) where
  by : AreDistinct (without_key es key) → (b : Bool) → AreDistinct (cond b es (e ∷ without_key es key))
  by ih true = d.1
  by ih false = (apart_left e.0 key es d.0, ih)

-- what is left has another key
gone_left : (key : Key) (es : List Entry) → AreDistinct es
    → AllByRecursion (λ (other : Key). same_key key other ≡ false) (keys_of (without_key es key))
unfolding IsDistinct
gone_left key [] d = tt
gone_left key (e ∷ es) d = by (gone_left key es d.1) (same_key key e.0) refl where
  as_key : (k : Key) (xs : List Key) → same_key key k ≡ true
      → AllByRecursion (λ (other : Key). same_key k other ≡ false) xs
      → AllByRecursion (λ (other : Key). same_key key other ≡ false) xs
  as_key k xs s h = subst (λ (x : Key). AllByRecursion (λ (other : Key). same_key x other ≡ false) xs)
      (sym (same_key_is key k s)) h

  by : AllByRecursion (λ (other : Key). same_key key other ≡ false) (keys_of (without_key es key)) → (b : Bool)
      → same_key key e.0 ≡ b → AllByRecursion (λ (other : Key). same_key key other ≡ false)
      (keys_of (cond b es (e ∷ without_key es key)))
  by ih true s = as_key e.0 (keys_of es) s d.0
  by ih false s = (s, ih)

apart_taken : (k : Key) (n : ℕ) (es : List Entry)
    → AllByRecursion (λ (other : Key). same_key k other ≡ false) (keys_of es)
    → AllByRecursion (λ (other : Key). same_key k other ≡ false) (keys_of (take n es))
apart_taken k zero es h = tt
apart_taken k (suc n) [] h = tt
apart_taken k (suc n) (e ∷ es) h = (h.0, apart_taken k n es h.1)

distinct_taken : (n : ℕ) (es : List Entry) → AreDistinct es → AreDistinct (take n es)
unfolding IsDistinct
distinct_taken zero es d = tt
distinct_taken (suc n) [] d = tt
distinct_taken (suc n) (e ∷ es) d = (apart_taken e.0 n es d.0, distinct_taken n es d.1)

distinct_latest : (key : Key) (counts : Counts) (es : List Entry) → AreDistinct es
    → AreDistinct (with_latest es key counts)
unfolding IsDistinct
distinct_latest key counts es d = (gone_left key es d, distinct_left key es d)

taken_length : (n : ℕ) (es : List Entry) → length (take n es) ≤ n
taken_length zero es = omega arith
taken_length (suc n) [] = omega arith
taken_length (suc n) (e ∷ es) = let ih = taken_length n es in omega arith

pub left_length : (key : Key) (es : List Entry) → length (without_key es key) ≤ length es
left_length key [] = omega arith
left_length key (e ∷ es) = by (left_length key es) (same_key key e.0) where
  by : length (without_key es key) ≤ length es → (b : Bool) → length (cond b es (e ∷ without_key es key))
      ≤ suc (length es)
  by ih true = omega arith
  by ih false = omega arith

-- ---- stores

pub added_is_usable : (stored : Stored) (key : Key) (counts : Counts) → IsUsable stored
    → IsUsable (with_counts stored key counts)
added_is_usable (unbounded held) key counts u = tt
added_is_usable (bounded r) key counts u = record {
  differ = distinct_taken r.capacity (with_latest r.entries key counts) (distinct_latest key counts r.entries u.differ);
  some = u.some;
  room = taken_length r.capacity (with_latest r.entries key counts);
}

pub left_is_usable : (stored : Stored) (key : Key) → IsUsable stored → IsUsable (without_entry stored key)
left_is_usable (unbounded held) key u = tt
left_is_usable (bounded r) key u =
    let less = left_length key r.entries in
    let room = u.room in
    record { differ = distinct_left key r.entries u.differ; some = u.some; room = omega arith }

pub taken_is_usable : (taken : Option Entry) (stored : Stored) → IsUsable stored → IsUsable (taken_out taken stored)
taken_is_usable None stored u = u
taken_is_usable (Some e) stored u = left_is_usable stored e.0 u

-- what counts do to the flows of a store
pub adds_to : (stored : Stored) (key : Key) (counts : Counts) → IsUsable stored
    → Adds (flows_in stored) (flows_in (with_counts stored key counts)) key counts (makes_room stored key counts)
adds_to (unbounded held) key counts u = record { flows = refl; whole = tt }
adds_to (bounded r) key counts u = adds_recent r key counts u.differ u.room u.some
