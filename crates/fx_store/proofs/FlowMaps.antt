-- The entries of a store as a finite map.
use Rattle.std.proofs.Common.{◌≡◌, ◌+◌, ◌<◌, Bool, true, false, cond, ◌&&◌, List, [], ◌∷◌, length, slice_get, Option, Some, None, is_some, IsSome, refl, sym, ap, ◌∙◌, arith, T}
use Rattle.std.specs.List.{AllByRecursion, IsDistinct}
use Rattle.std.specs.Map.{lookup, keys_of}
use Rattle.std.specs.BTreeMap.{is_at}
use Rattle.std.specs.Ordering.{is_eq, is_lt, is_gt, eq_by_cmp}
use Rattle.std.specs.declared.cmp.Ordering.TheVariants.{Less, Equal, Greater}
use Rattle.std.specs.Cmp.{eq_by_cmp_equiv, tied_itself}
use Rattle.std.specs.FinMap.Entries.{below_all}
use Rattle.std.specs.FinMap.{entries, entries_sorted, find, is_sorted, get, insert, remove, len, get-entries, get-from_entries, get-insert, get-remove, len-entries, len-insert, len-empty, same_map}
use Rattle.fx_base.specs.declared.counts.Counts.{Counts}
use Rattle.fx_layout.specs.Keys.{Key}
use Rattle.fx_store.specs.Order.{key_cmp}
use Rattle.fx_store.specs.KeyOrder.{key_cmp_total, key_cmp_apart}
use Rattle.fx_store.specs.Flows.{Entry, flows_of, least, with_more, Adds}

lookup_find : (q : Key) (es : List Entry) → lookup (is_at (key_cmp q)) es ≡ find key_cmp q es
lookup_find q [] = refl
lookup_find q (e ∷ es) = ap (cond (is_eq (key_cmp q e.0)) (Some e.1)) (lookup_find q es)

-- what the map has at a key is what a look-up finds
pub found : (q : Key) (es : List Entry) → get (flows_of es) q ≡ lookup (is_at (key_cmp q)) es
found q es = get-from_entries key_cmp_total es q ∙ sym (lookup_find q es)

turned : (k q : Key) (x y : Option Counts) → cond (is_at (key_cmp k) q) x y ≡ cond (eq_by_cmp key_cmp q k) x y
turned k q x y = ap (λ b. cond b x y) ((eq_by_cmp_equiv key_cmp_total).symm k q)

-- ---- changes

pub insert_is : (m n : List Entry) (k : Key) (v : Counts)
    → ((q : Key) → lookup (is_at (key_cmp q)) n ≡ cond (is_at (key_cmp k) q) (Some v) (lookup (is_at (key_cmp q)) m))
    → flows_of n ≡ insert (flows_of m) k v
insert_is m n k v h =
    same_map key_cmp_total key_cmp_apart _ _
    (λ q. found q n ∙ h q ∙ turned k q _ _ ∙ ap (cond (eq_by_cmp key_cmp q k) (Some v)) (sym (found q m))
    ∙ sym (get-insert key_cmp_total (flows_of m) k v q))

pub remove_is : (m n : List Entry) (k : Key)
    → ((q : Key) → lookup (is_at (key_cmp q)) n ≡ cond (is_at (key_cmp k) q) None (lookup (is_at (key_cmp q)) m))
    → flows_of n ≡ remove (flows_of m) k
remove_is m n k h =
    same_map key_cmp_total key_cmp_apart _ _
    (λ q. found q n ∙ h q ∙ turned k q _ _ ∙ ap (cond (eq_by_cmp key_cmp q k) None) (sym (found q m))
    ∙ sym (get-remove key_cmp_total (flows_of m) k q))

-- counts added at a key, where no entry leaves
pub adds_alone : (m n : List Entry) (k : Key) (c v : Counts)
    → ((q : Key) → lookup (is_at (key_cmp q)) n ≡ cond (is_at (key_cmp k) q) (Some v) (lookup (is_at (key_cmp q)) m))
    → v ≡ with_more (lookup (is_at (key_cmp k)) m) c → Adds (flows_of m) (flows_of n) k c None
adds_alone m n k c v h is = record {
  flows = insert_is m n k v h ∙ ap (insert (flows_of m) k)
      (is ∙ ap (λ (o : Option Counts). with_more o c) (sym (found k m)));
  whole = tt;
}

pub not_there : {X : Type 0} (k : Key) (es : List Entry) → lookup (is_at (key_cmp k)) es ≡ None
    → IsSome (get (flows_of es) k) → X
not_there k es none there = let gone : is_some (get (flows_of es) k) ≡ false = ap is_some (found k es ∙ none) in
    absurd (cc)

-- ---- the number of keys

absent_key : (k : Key) (es : List Entry) → AllByRecursion (λ y. eq_by_cmp key_cmp k y ≡ false) (keys_of es)
    → find key_cmp k es ≡ None
absent_key k [] h = refl
absent_key k (e ∷ es) h = ap (λ b. cond b (Some e.1) (find key_cmp k es)) h.0 ∙ absent_key k es h.1

pub len_is : (es : List Entry) → IsDistinct (eq_by_cmp key_cmp) (keys_of es) → len (flows_of es) ≡ length es
unfolding IsDistinct
len_is [] h = len-empty key_cmp Counts
len_is (e ∷ es) h =
    let rest = len_is es h.1 in
    let new : get (flows_of es) e.0 ≡ None = get-from_entries key_cmp_total es e.0 ∙ absent_key e.0 es h.0 in
    let more : len (insert (flows_of es) e.0 e.1) ≡ len (flows_of es) + 1 =
    len-insert key_cmp_total (flows_of es) e.0 e.1
    ∙ ap (λ (o : Option Counts). cond (is_some o) (len (flows_of es)) (len (flows_of es) + 1)) new in
    more ∙ omega (arith, rest)

-- ---- the least key

none_first : (es : List Entry) → length es ≡ 0 → slice_get es 0 ≡ None
none_first [] h = refl
none_first (e ∷ es) h = absurd (omega arith)

-- of no entries none is the least
pub least_none : (es : List Entry) → (0 < length es → false ≡ true) → least (flows_of es) ≡ None
least_none [] h = none_first (entries (flows_of [])) (sym (len-entries (flows_of [])) ∙ len-empty key_cmp Counts)
least_none (e ∷ es) h = let no : false ≡ true = h (omega arith) in absurd (cc)

both_tests : (a b : Bool) → T (a && b) → (a ≡ true) × T b
both_tests true b h = (refl, h)
both_tests false b h = absurd h

lower_is : (a b : Key) → is_lt (key_cmp a b) ≡ true → key_cmp a b ≡ Less
lower_is a b h = elim (key_cmp a b) as (λ o. is_lt o ≡ true → o ≡ Less)
    [ Less ↦ λ _. refl | Equal ↦ λ e. absurd (cc) | Greater ↦ λ e. absurd (cc) ] h

-- a key below one that is below all is not there
missed : (k e : Key) (es : List Entry) → key_cmp k e ≡ Less → T (below_all key_cmp e es) → find key_cmp k es ≡ None
missed k e [] lt h = refl
missed k e (f ∷ es) lt h =
    let two = both_tests (is_lt (key_cmp e f.0)) (below_all key_cmp e es) h in
    let far : key_cmp k f.0 ≡ Less = key_cmp_total.trans k e f.0 lt (lower_is e f.0 two.0) in
    ap (λ o. cond (is_eq o) (Some f.1) (find key_cmp k es)) far ∙ missed k e es lt two.1

first_is : (es : List Entry) (k : Key) (v : Counts) → T (is_sorted key_cmp es) → find key_cmp k es ≡ Some v
    → ((q : Key) → IsSome (find key_cmp q es) → is_gt (key_cmp k q) ≡ false) → slice_get es 0 ≡ Some (k, v)
first_is [] k v s f low = absurd (cc)
first_is (e ∷ es) k v s f low =
    elim (key_cmp k e.0) as (λ o. key_cmp k e.0 ≡ o → Some e ≡ Some (k, v)) [
      | Less ↦ λ p.
          let gone : find key_cmp k (e ∷ es) ≡ None = ap (λ o. cond (is_eq o) (Some e.1) (find key_cmp k es)) p
          ∙ missed k e.0 es p (both s).0 in
          let no : None ≡ Some v = sym gone ∙ f in
          absurd (cc)
      | Equal ↦ λ p.
          let key : k ≡ e.0 = key_cmp_apart k e.0 p in
          let here : Some e.1 ≡ Some v = sym (ap (λ o. cond (is_eq o) (Some e.1) (find key_cmp k es)) p) ∙ f in
          let value : e.1 ≡ v = cc in
          ap (λ (x : Key × Counts). Some x) (λ i. (sym key i, value i))
      | Greater ↦ λ p.
          let own : IsSome (find key_cmp e.0 (e ∷ es)) =
          ap (λ o. is_some (cond (is_eq o) (Some e.1) (find key_cmp e.0 es))) (tied_itself key_cmp_total e.0) in
          let not_above : is_gt (key_cmp k e.0) ≡ false = low e.0 own in
          let above : is_gt (key_cmp k e.0) ≡ true = ap is_gt p in
          let no : true ≡ false = sym above ∙ not_above in
          absurd (cc)
    ] refl
  where
    both : T (below_all key_cmp e.0 es && is_sorted key_cmp es) → T (below_all key_cmp e.0 es)
        × T (is_sorted key_cmp es)
    both h = elim (below_all key_cmp e.0 es) as (λ b. T (b && is_sorted key_cmp es) → T b × T (is_sorted key_cmp es))
        [ true ↦ λ g. (tt, g) | false ↦ λ g. absurd g ] h

in_order : (q : Key) (es : List Entry) → find key_cmp q (entries (flows_of es)) ≡ lookup (is_at (key_cmp q)) es
in_order q es = sym (get-entries (flows_of es) q) ∙ found q es

-- a key that is there and that no key is below has the first entry
pub least_is : (es : List Entry) (k : Key) (v : Counts) → lookup (is_at (key_cmp k)) es ≡ Some v
    → ((q : Key) → IsSome (lookup (is_at (key_cmp q)) es) → is_gt (key_cmp k q) ≡ false) → least (flows_of es)
    ≡ Some (k, v)
least_is es k v h low =
    first_is (entries (flows_of es)) k v (entries_sorted (flows_of es)) (in_order k es ∙ h)
    (λ q there. low q (sym (ap is_some (in_order q es)) ∙ there))
