-- Entries by how recently they were added to, and what leaves.
use Rattle.std.proofs.Common.{◌≡◌, ℕ, zero, suc, ◌+◌, ◌-◌, ◌<◌, ◌≤◌, Bool, true, false, cond, List, [], ◌∷◌, ◌++◌, length, take, slice_get, Option, Some, None, is_some, IsSome, IfOk, OnOk, Result, Ok, Err, refl, sym, ap, ◌∙◌, subst, arith, inl, inr}
use Rattle.std.specs.List.{AllByRecursion, IsDistinct}
use Rattle.std.specs.Map.{lookup, lookup_entry, keys_of}
use Rattle.std.specs.BTreeMap.{is_at}
use Rattle.std.specs.Ordering.{eq_by_cmp}
use Rattle.std.specs.FinMap.{get, insert, remove, get-insert, get-remove, same_map}
use Rattle.std.proofs.lemmas.Bool.{cases_lt}
use Rattle.std.proofs.lemmas.List.{take_all}
use Rattle.fx_base.specs.declared.counts.Counts.{Counts}
use Rattle.fx_base.specs.declared.fault.Fault.{Fault}
use Rattle.fx_layout.specs.Keys.{Key, same_key}
use Rattle.fx_layout.proofs.Projections.{same_key_is, key_same}
use Rattle.fx_store.specs.Order.{key_cmp}
use Rattle.fx_store.specs.KeyOrder.{key_cmp_total, key_cmp_apart, same_key_ties, same_key_equiv}
use Rattle.fx_store.specs.Flows.{Entry, Flows, flows_of, with_added, with_more, Adds}
use Rattle.fx_store.specs.Recent.{Recent, counts_at, without_key, with_latest, after_add, pushed_out}
use Rattle.fx_store.proofs.FlowMaps.{found, remove_is}

-- ---- look-ups

pub same_test : (q : Key) → same_key q ≡ is_at (key_cmp q)
same_test q = λ i k. same_key_ties q k i

pub same_tests : same_key ≡ eq_by_cmp key_cmp
same_tests = λ i a b. same_key_ties a b i

-- what the flows have at a key
pub counted : (q : Key) (es : List Entry) → get (flows_of es) q ≡ counts_at es q
counted q es = found q es ∙ ap (λ (t : Key → Bool). lookup t es) (sym (same_test q))

pub not_counted : {X : Type 0} (k : Key) (es : List Entry) → counts_at es k ≡ None → IsSome (get (flows_of es) k) → X
not_counted k es none there = let no : is_some (get (flows_of es) k) ≡ false = ap is_some (counted k es ∙ none) in
    absurd (cc)

pub entry_at : (k : Key) (es : List Entry) (v : Counts) → counts_at es k ≡ Some v
    → (lookup_entry (same_key k) es ≡ Some (k, v)) × (length (without_key es k) + 1 ≡ length es)
entry_at k [] v h = absurd (cc)
entry_at k (e ∷ es) v h =
    let rest = entry_at k es v in
    (elim (same_key k e.0) as (λ t. same_key k e.0 ≡ t → cond t (Some e.1) (counts_at es k) ≡ Some v
    → (cond t (Some e) (lookup_entry (same_key k) es) ≡ Some (k, v))
    × (length (cond t es (e ∷ without_key es k)) + 1 ≡ suc (length es))) [
      | true ↦ λ t g.
          let key : k ≡ e.0 = same_key_is k e.0 t in
          let value : e.1 ≡ v = cc in
          (ap (λ (x : Key × Counts). Some x) (λ i. (sym key i, value i)), omega arith)
      | false ↦ λ t g. let on = rest g in (on.0, omega (arith, on.1))
    ]) refl h

pub no_entry_at : (k : Key) (es : List Entry) → counts_at es k ≡ None → (lookup_entry (same_key k) es ≡ None)
    × (without_key es k ≡ es)
no_entry_at k [] h = (refl, refl)
no_entry_at k (e ∷ es) h =
    let rest = no_entry_at k es in
    (elim (same_key k e.0) as (λ t. cond t (Some e.1) (counts_at es k) ≡ None
    → (cond t (Some e) (lookup_entry (same_key k) es) ≡ None) × (cond t es (e ∷ without_key es k) ≡ e ∷ es)) [
      | true ↦ λ g. absurd (cc)
      | false ↦ λ g. let on = rest g in (on.0, ap (λ (l : List Entry). e ∷ l) on.1)
    ]) h

-- ---- without a key

abbrev pub AreDistinct : List Entry → Type 0
AreDistinct es = IsDistinct same_key (keys_of es)

gone : (k : Key) (es : List Entry) → AllByRecursion (λ y. same_key k y ≡ false) (keys_of es) → counts_at es k ≡ None
gone k [] h = refl
gone k (e ∷ es) h = ap (λ b. cond b (Some e.1) (counts_at es k)) h.0 ∙ gone k es h.1

-- the look-ups of what is left
left_at : (k q : Key) (es : List Entry) → AreDistinct es → counts_at (without_key es k) q
    ≡ cond (same_key k q) None (counts_at es q)
unfolding IsDistinct
left_at k q [] d = elim (same_key k q) as (λ b. None ≡ cond {A = Option Counts} b None None)
    [ true ↦ refl | false ↦ refl ]
left_at k q (e ∷ es) d =
    let rest = left_at k q es d.1 in
    (elim (same_key k e.0) as (λ t. same_key k e.0 ≡ t → counts_at (cond t es (e ∷ without_key es k)) q
    ≡ cond (same_key k q) None (counts_at (e ∷ es) q)) [
      | true ↦ λ t.
          let key : k ≡ e.0 = same_key_is k e.0 t in
          (elim (same_key k q) as (λ b. same_key k q ≡ b → counts_at es q ≡ cond b None (counts_at (e ∷ es) q)) [
            | true ↦ λ b. subst (λ (x : Key). counts_at es x ≡ None) (sym key ∙ same_key_is k q b) (gone e.0 es d.0)
            | false ↦ λ b. let other : same_key q e.0 ≡ false = ap (same_key q) (sym key) ∙ same_key_equiv.symm q k ∙ b
                in sym (ap (λ t. cond t (Some e.1) (counts_at es q)) other)
          ]) refl
      | false ↦ λ t.
          (elim (same_key q e.0) as (λ b. same_key q e.0 ≡ b → cond b (Some e.1) (counts_at (without_key es k) q)
          ≡ cond (same_key k q) None (cond b (Some e.1) (counts_at es q))) [
            | true ↦ λ b. let other : same_key k q ≡ false = ap (same_key k) (same_key_is q e.0 b) ∙ t in
                sym (ap (λ u. cond u None (Some e.1)) other)
            | false ↦ λ b. rest
          ]) refl
    ]) refl

pub without_is : (k : Key) (es : List Entry) → AreDistinct es → flows_of (without_key es k) ≡ remove (flows_of es) k
without_is k es d =
    remove_is es (without_key es k) k (λ q. ap (λ (t : Key → Bool). lookup t (without_key es k)) (sym (same_test q))
    ∙ left_at k q es d ∙ ap (λ b. cond b None (counts_at es q)) (same_key_ties k q)
    ∙ ap (λ (t : Key → Bool). cond (is_at (key_cmp k) q) None (lookup t es)) (same_test q))

-- ---- the last entry

pub last_of : (es : List Entry) → 0 < length es → (e : Entry) × (slice_get es (length es - 1) ≡ Some e)
    × (es ≡ take (length es - 1) es ++ e ∷ [])
last_of [] h = absurd (omega arith)
last_of (e ∷ []) h = (e, refl, refl)
last_of (e ∷ f ∷ es) h =
    let rest = last_of (f ∷ es) (omega arith) in
    let n : suc (suc (length es)) - 1 ≡ suc (suc (length es) - 1) = omega arith in (
      rest.0,
      ap (λ (i : ℕ). slice_get (e ∷ f ∷ es) i) n ∙ rest.1,
      ap (λ (l : List Entry). e ∷ l) rest.2
          ∙ ap (λ (i : ℕ). take i (e ∷ f ∷ es) ++ rest.0 ∷ []) (sym n),
    )

-- the last of distinct entries is at its key, and the others are without it
pub last_apart : (es : List Entry) (e : Entry) → AreDistinct (es ++ e ∷ []) → (counts_at (es ++ e ∷ []) e.0 ≡ Some e.1)
    × (without_key (es ++ e ∷ []) e.0 ≡ es)
unfolding IsDistinct
last_apart [] e d = (
  ap (λ b. cond b (Some e.1) None) (key_same e.0),
  ap (λ (b : Bool). cond b [] (e ∷ []))
      (key_same e.0),
)
last_apart (f ∷ es) e d =
    let rest = last_apart es e d.1 in
    let other : same_key e.0 f.0 ≡ false = same_key_equiv.symm e.0 f.0 ∙ at_last es d.0 in (
      ap (λ b. cond b (Some f.1) (counts_at (es ++ e ∷ []) e.0)) other
          ∙ rest.0,
      ap (λ b. cond b (es ++ e ∷ []) (f ∷ without_key (es ++ e ∷ []) e.0)) other
          ∙ ap (λ (l : List Entry). f ∷ l) rest.1,
    )
  where
    at_last : (xs : List Entry) → AllByRecursion (λ y. same_key f.0 y ≡ false) (keys_of (xs ++ e ∷ []))
        → same_key f.0 e.0 ≡ false
    at_last [] h = h.0
    at_last (x ∷ xs) h = at_last xs h.1

-- ---- what an addition makes of the flows

again : (m : Flows) (k : Key) (v : Counts) → insert (remove m k) k v ≡ insert m k v
again m k v = same_map key_cmp_total key_cmp_apart _ _
    (λ q. get-insert key_cmp_total (remove m k) k v q
    ∙ ap (cond (eq_by_cmp key_cmp q k) (Some v)) (get-remove key_cmp_total m k q)
    ∙ twice (eq_by_cmp key_cmp q k) (Some v) (get m q) ∙ sym (get-insert key_cmp_total m k v q))
  where
    twice : (b : Bool) (x y : Option Counts) → cond b x (cond b None y) ≡ cond b x y
    twice true x y = refl
    twice false x y = refl

still_none : (m : Flows) (e k : Key) → get m k ≡ None → get (remove m e) k ≡ None
still_none m e k h = get-remove key_cmp_total m e k ∙ ap (cond (eq_by_cmp key_cmp k e) None) h
    ∙ elim (eq_by_cmp key_cmp k e) as (λ b. cond {A = Option Counts} b None None ≡ None) [ true ↦ refl | false ↦ refl ]

-- the entry that counts were added to
abbrev latest : List Entry → Key → Counts → Counts
latest es k c = with_more (counts_at es k) c

pub at_key : (es : List Entry) (k : Key) (c : Counts) → latest es k c ≡ with_more (get (flows_of es) k) c
at_key es k c = ap (λ (o : Option Counts). with_more o c) (sym (counted k es))

adds_with_room : (es : List Entry) (k : Key) (c : Counts) (n : ℕ) → AreDistinct es → length (with_latest es k c) ≤ n
    → Adds (flows_of es) (flows_of (take n (with_latest es k c))) k c (slice_get (with_latest es k c) n)
adds_with_room es k c n d room =
    let all : take n (with_latest es k c) ≡ with_latest es k c = take_all n (with_latest es k c) room in
    let none : slice_get (with_latest es k c) n ≡ None = past (with_latest es k c) n room in
    let same : flows_of (with_latest es k c) ≡ insert (flows_of es) k (with_more (get (flows_of es) k) c) =
    ap (λ (m : Flows). insert m k (latest es k c)) (without_is k es d) ∙ again (flows_of es) k (latest es k c)
    ∙ ap (insert (flows_of es) k) (at_key es k c) in
    rw (all, none) (record { flows = same; whole = tt })
  where
    past : (xs : List Entry) (i : ℕ) → length xs ≤ i → slice_get xs i ≡ None
    past [] i h = refl
    past (x ∷ xs) zero h = absurd (omega arith)
    past (x ∷ xs) (suc i) h = past xs i (omega arith)

adds_when_full : (es : List Entry) (k : Key) (c : Counts) → AreDistinct es → 0 < length es → counts_at es k ≡ None
    → Adds (flows_of es) (flows_of ((k, c) ∷ take (length es - 1) es)) k c (slice_get es (length es - 1))
adds_when_full es k c d some none =
    let last = last_of es some in
    let e = last.0 in
    let front : List Entry = take (length es - 1) es in
    let whole : es ≡ front ++ e ∷ [] = last.2 in
    let apart = last_apart front e (subst AreDistinct whole d) in
    let before : flows_of front ≡ remove (flows_of es) e.0 =
    ap flows_of (sym apart.1 ∙ ap (λ (l : List Entry). without_key l e.0) (sym whole)) ∙ without_is e.0 es d in
    let new : get (flows_of es) k ≡ None = counted k es ∙ none in
    let old : get (flows_of es) e.0 ≡ Some e.1 = counted e.0 es ∙ ap (λ (l : List Entry). counts_at l e.0) whole
    ∙ apart.0 in
    let same : insert (flows_of front) k c ≡ with_added (remove (flows_of es) e.0) k c =
    ap (λ (m : Flows). insert m k c) before
    ∙ ap (insert (remove (flows_of es) e.0) k)
    (ap (λ (o : Option Counts). with_more o c) (sym (still_none (flows_of es) e.0 k new))) in
    rw last.1 (record { flows = same; whole = (new, old) })

adds_at_the_end : (es : List Entry) (k : Key) (c : Counts) (n : ℕ) → AreDistinct es → n ≡ suc (length es - 1) → 0
    < length es → counts_at es k ≡ None → Adds (flows_of es) (flows_of (take n (with_latest es k c))) k c
    (slice_get (with_latest es k c) n)
adds_at_the_end es k c n d full some none =
    let same : without_key es k ≡ es = (no_entry_at k es none).1 in
    let list : with_latest es k c ≡ (k, c) ∷ es = λ i. (k, with_more (none i) c) ∷ same i in
    let now : take n (with_latest es k c) ≡ (k, c) ∷ take (length es - 1) es = ap (take n) list
    ∙ ap (λ (i : ℕ). take i ((k, c) ∷ es)) full in
    let out : slice_get (with_latest es k c) n ≡ slice_get es (length es - 1) =
    ap (λ (l : List Entry). slice_get l n) list ∙ ap (λ (i : ℕ). slice_get ((k, c) ∷ es) i) full in
    subst (λ (l : List Entry). Adds (flows_of es) (flows_of l) k c (slice_get (with_latest es k c) n)) (sym now)
    (subst (λ (o : Option Entry). Adds (flows_of es) (flows_of ((k, c) ∷ take (length es - 1) es)) k c o) (sym out)
    (adds_when_full es k c d some none))

-- counts are added at the key, and what there is no room for leaves
pub adds_recent : (r : Recent) (k : Key) (c : Counts) → AreDistinct r.entries → length r.entries ≤ r.capacity → 0
    < r.capacity → Adds (flows_of r.entries) (flows_of (after_add r k c).entries) k c (pushed_out r k c)
adds_recent r k c d room some = by_counts (counts_at r.entries k) refl
  where
    by_counts : (o : Option Counts) → counts_at r.entries k ≡ o
        → Adds (flows_of r.entries) (flows_of (after_add r k c).entries) k c (pushed_out r k c)
    by_counts (Some v) h = let on = (entry_at k r.entries v h).1 in
        adds_with_room r.entries k c r.capacity d (omega (arith, on))
    by_counts None h = elim (cases_lt (length r.entries) r.capacity) [
      | inl less ↦ let all = ap length (no_entry_at k r.entries h).1 in
          adds_with_room r.entries k c r.capacity d (omega (arith, all))
      | inr full ↦ adds_at_the_end r.entries k c r.capacity d (omega arith) (omega arith) h
    ]

-- the same of a call that may fail
pub adds_if : (r s : Recent) (k : Key) (c : Counts) (answer : Result (Option Entry) Fault) → AreDistinct r.entries
    → length r.entries ≤ r.capacity → 0 < r.capacity → OnOk answer (s ≡ after_add r k c)
    → IfOk answer (λ left. left ≡ pushed_out r k c)
    → IfOk answer (λ left. Adds (flows_of r.entries) (flows_of s.entries) k c left)
adds_if r s k c (Ok left) d room some now out =
    subst (λ (t : Recent). Adds (flows_of r.entries) (flows_of t.entries) k c left) (sym now)
    (subst (λ (o : Option Entry). Adds (flows_of r.entries) (flows_of (after_add r k c).entries) k c o) (sym out)
    (adds_recent r k c d room some))
adds_if r s k c (Err e) d room some now out = tt
