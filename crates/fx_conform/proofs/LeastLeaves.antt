-- The record of the least key leaves a holder, until it holds nothing.
use Rattle.std.proofs.Common.{◌≡◌, ℕ, zero, suc, ◌<◌, Bool, true, false, ◌&&◌, T, cond, Ordering, Less, Equal, Greater, List, [], ◌∷◌, length, Option, Some, None, option_map, refl, sym, ap, ◌∙◌, subst, arith, slice_get, slice_set}
use Rattle.std.specs.Cmp.{tied_itself}
use Rattle.std.specs.List.{AllByRecursion}
use Rattle.std.specs.Ordering.{is_eq, is_gt, is_lt, ordering_reverse}
use Rattle.std.specs.Prelude.{is_some}
use Rattle.std.specs.FinMap.{entries, entries_sorted, find, get, remove, get-entries}
use Rattle.std.specs.FinMap.Entries.{below_all, is_sorted}
use Rattle.fx_layout.specs.Keys.{Key, same_key}
use Rattle.fx_layout.proofs.Projections.{key_same}
use Rattle.fx_tables.specs.declared.record.Record.{Record}
use Rattle.fx_machine.specs.States.{without}
use Rattle.fx_machine.specs.Sums.{total_at}
use Rattle.fx_store.specs.Order.{key_cmp}
use Rattle.fx_store.specs.KeyOrder.{key_cmp_total}
use Rattle.fx_store.specs.Flows.{Flows, Entry, least}
use Rattle.fx_store.proofs.Recency.{without_is}
use Rattle.fx_net.specs.Stores.{Stored, unbounded, bounded, flows_in, without_entry}
use Rattle.fx_net.specs.Contents.{with_changed, stored_at}
use Rattle.fx_net.specs.Leaving.{leaver, least_of, taken_out, without_least}
use Rattle.fx_net.specs.Taking.{left_by}
use Rattle.fx_conform.specs.Held.{IsHeld, AreHeld, Leave, AllLeave}
use Rattle.fx_conform.specs.Usable.{IsUsable, AreUsable}
use Rattle.fx_conform.specs.Emptying.{leasts, without_leasts}
use Rattle.fx_conform.proofs.Places.{changed_is, stored_there}
use Rattle.fx_conform.proofs.RemovedRecords.{leavings_are_made}
use Rattle.fx_conform.proofs.UsableStores.{left_is_usable}
use Rattle.fx_conform.proofs.FactsOfPlaces.{standing, stand_set, Holds, AllHeld, held_stand, stand_held, stand_usable}
use Rattle.fx_conform.proofs.LeavingCommutes.{leave_join}

-- ---- the entry of the least key

first_found : (e : Entry) (es : List Entry) → slice_get es 0 ≡ Some e → find key_cmp e.0 es ≡ Some e.1
first_found e [] h = absurd (cc)
first_found e (f ∷ es) h =
    let is : e ≡ f = cc in
    ap (λ (x : Entry). cond (is_eq (key_cmp x.0 f.0)) (Some f.1) (find key_cmp x.0 es)) is
    ∙ ap (λ o. cond (is_eq o) (Some f.1) (find key_cmp f.0 es)) (tied_itself key_cmp_total f.0)
    ∙ ap (λ (x : Entry). Some x.1) (sym is)

missed : (k e : Key) (es : List Entry) → key_cmp k e ≡ Less → T (below_all key_cmp e es) → find key_cmp k es ≡ None
missed k e [] lt h = refl
missed k e (f ∷ es) lt h =
    let low : (key_cmp e f.0 ≡ Less) × T (below_all key_cmp e es) = both (key_cmp e f.0) (below_all key_cmp e es) h in
    ap (λ o. cond (is_eq o) (Some f.1) (find key_cmp k es)) (key_cmp_total.trans k e f.0 lt low.0)
    ∙ missed k e es lt low.1
  where
    both : (o : Ordering) (b : Bool) → T (is_lt o && b) → (o ≡ Less) × T b
    both Less true g = (refl, tt)
    both Less false g = absurd g
    both Equal b g = absurd g
    both Greater b g = absurd g

-- no key that is there is below the first
above_first : (es : List Entry) (e : Entry) (q : Key) → T (is_sorted key_cmp es) → slice_get es 0 ≡ Some e
    → is_some (find key_cmp q es) ≡ true → is_gt (key_cmp e.0 q) ≡ false
above_first [] e q sorted h there = absurd (cc)
above_first (f ∷ es) e q sorted h there =
    let is : e ≡ f = cc in
    subst (λ (x : Entry). is_gt (key_cmp x.0 q) ≡ false) (sym is) (by (key_cmp f.0 q) refl)
  where
    first : (a b : Bool) → T (a && b) → T a
    first true b g = tt
    first false b g = absurd g

    by : (o : Ordering) → key_cmp f.0 q ≡ o → is_gt o ≡ false
    by Less is = refl
    by Equal is = refl
    by Greater is =
        let below : key_cmp q f.0 ≡ Less = key_cmp_total.antisymm q f.0 ∙ ap ordering_reverse is in
        let gone : find key_cmp q (f ∷ es) ≡ None =
        ap (λ o. cond (is_eq o) (Some f.1) (find key_cmp q es)) below
        ∙ missed q f.0 es below (first (below_all key_cmp f.0 es) (is_sorted key_cmp es) sorted) in
        let no : false ≡ true = ap is_some (sym gone) ∙ there in
        absurd (cc)

-- so of the records for these flows none has a key below the least
above_least : (held : Flows) (e : Entry) (rs : List Record) → IsHeld held rs → least held ≡ Some e
    → AllByRecursion (λ (r : Record). is_gt (key_cmp e.0 r.key) ≡ false) rs
above_least held e rs h low = each rs (λ key there. there) where
  still : (t : Record) (ts : List Record) (key : Key) → is_some (total_at ts key) ≡ true
      → is_some (total_at (t ∷ ts) key) ≡ true
  still t ts key there = elim (same_key t.key key) as (λ b. is_some (cond b (Some t.counts) (total_at ts key)) ≡ true)
      [ true ↦ refl | false ↦ there ]

  own : (t : Record) (ts : List Record) → is_some (total_at (t ∷ ts) t.key) ≡ true
  own t ts = ap (λ b. is_some (cond b (Some t.counts) (total_at ts t.key))) (key_same t.key)

  each : (ts : List Record) → ((key : Key) → is_some (total_at ts key) ≡ true → is_some (total_at rs key) ≡ true)
      → AllByRecursion (λ (r : Record). is_gt (key_cmp e.0 r.key) ≡ false) ts
  each [] within = tt
  each (t ∷ ts) within = (
    above_first (entries held) e t.key (entries_sorted held) low
        (ap is_some (sym (h.same t.key ∙ get-entries held t.key)) ∙ within t.key (own t ts)),
    each ts (λ key there. within key (still t ts key there)),
  )

-- of the records that are held none has a key below that of the entry that leaves
pub none_below_least : (stores : List (Option Stored)) (held : List (List Record)) (place : ℕ) (e : Entry)
    (rs : List Record) → AreHeld stores held → least_of (stored_at stores place) ≡ Some e → slice_get held place
    ≡ Some rs
    → AllByRecursion (λ (r : Record). is_gt (key_cmp e.0 r.key) ≡ false) rs
none_below_least [] [] place e rs h low there = absurd (cc)
none_below_least [] (ts ∷ held) place e rs h low there = absurd h
none_below_least (s ∷ stores) [] place e rs h low there = absurd h
none_below_least (None ∷ stores) (ts ∷ held) zero e rs h low there = absurd (cc)
none_below_least (Some s ∷ stores) (ts ∷ held) zero e rs h low there =
    let is : ts ≡ rs = cc in
    above_least (flows_in s) e rs (subst (IsHeld (flows_in s)) is h.0) low
none_below_least (s ∷ stores) (ts ∷ held) (suc place) e rs h low there =
    none_below_least stores held place e rs h.1 low there

pub least_there : (held : Flows) (e : Entry) → least held ≡ Some e → get held e.0 ≡ Some e.1
least_there held e h = get-entries held e.0 ∙ first_found e (entries held) h

-- a store has the other entries then
pub without_flows : (s : Stored) (key : Key) → IsUsable s → flows_in (without_entry s key) ≡ remove (flows_in s) key
without_flows (unbounded held) key u = refl
without_flows (bounded r) key u = without_is key r.entries u.differ

-- ---- one leaves

record One (stores : List (Option Stored)) (held : List (List Record)) (place : ℕ) (e : Entry) : Type 0 where
  now : List (List Record)
  leave : Leave (leaver place e) held now
  all_held : AllHeld (without_least stores place) now

one_leaves : (stores : List (Option Stored)) (held : List (List Record)) (place : ℕ) (s : Stored) (e : Entry)
    → AllHeld stores held → stored_at stores place ≡ Some s → least (flows_in s) ≡ Some e → One stores held place e
one_leaves stores held place s e st is low =
    let there : slice_get stores place ≡ Some (Some s) = stored_there stores place s is in
    let at = standing (λ n. Holds []) stores held place st (within stores place there) in
    let same : at.s ≡ Some s = (let both : Some at.s ≡ Some (Some s) = sym at.store_is ∙ there in cc) in
    let fact : IsHeld (flows_in s) at.rs × IsUsable s = subst (λ (o : Option Stored). Holds [] o at.rs) same at.fact in
    let l = leavings_are_made (flows_in s) at.rs e.0 e.1 fact.0 (least_there (flows_in s) e low) in
    let now : List (List Record) = slice_set held place (without at.rs l.0) in
    let least_is : least_of (stored_at stores place) ≡ Some e = ap least_of is ∙ low in
    let then_held : IsHeld (flows_in (without_entry s e.0)) (without at.rs l.0) =
    subst (λ (m : Flows). IsHeld m (without at.rs l.0)) (sym (without_flows s e.0 fact.1)) l.2 in
    let set_is : without_least stores place ≡ slice_set stores place (Some (without_entry s e.0)) =
    ap (λ (o : Option Entry). with_changed (option_map (taken_out o)) stores place) least_is
    ∙ changed_is (option_map (taken_out (Some e))) stores place (Some s) there in
    record {
      now = now;
      leave = record { number = l.0; rs = at.rs; there = at.records_are; flow_is = l.1; now_is = refl };
      all_held = subst (λ (ss : List (Option Stored)). AllHeld ss now) (sym set_is)
          (stand_set (λ n. Holds []) (λ n. Holds []) stores held place (Some (without_entry s e.0)) (without at.rs l.0)
          st (then_held, left_is_usable s e.0 fact.1) (λ m t ts ne q. q));
    }
  where
    within : (xs : List (Option Stored)) (n : ℕ) {x : Option Stored} → slice_get xs n ≡ Some x → n < length xs
    within [] n h = absurd (cc)
    within (y ∷ xs) zero h = omega arith
    within (y ∷ xs) (suc n) h = let lt = within xs n h in omega arith

one_or_none : (stores : List (Option Stored)) (held : List (List Record)) (place : ℕ) (e : Entry) → AllHeld stores held
    → least_of (stored_at stores place) ≡ Some e → One stores held place e
one_or_none stores held place e st low = by (stored_at stores place) refl low where
  by : (o : Option Stored) → stored_at stores place ≡ o → least_of o ≡ Some e → One stores held place e
  by None is h = absurd (cc)
  by (Some s) is h = one_leaves stores held place s e st is h

pub least_leaves : (stores : List (Option Stored)) (held : List (List Record)) (place : ℕ) (e : Entry)
    → AreHeld stores held → AreUsable stores → least_of (stored_at stores place) ≡ Some e
    → (now : List (List Record)) × Leave (leaver place e) held now × AreHeld (without_least stores place) now
    × AreUsable (without_least stores place)
least_leaves stores held place e h u low =
    let o = one_or_none stores held place e (held_stand stores held h u) low in (
      o.now,
      o.leave,
      stand_held (without_least stores place) o.now o.all_held,
      stand_usable (without_least stores place)
          o.now o.all_held,
    )

-- ---- several leave

record SomeLeave (stores : List (Option Stored)) (held : List (List Record)) (place n : ℕ) : Type 0 where
  now : List (List Record)
  leave : AllLeave (leasts place stores n) held now
  all_held : AllHeld (without_leasts place stores n) now

-- where there is none, nothing is taken out
pub none_out : (stores : List (Option Stored)) (place : ℕ) → with_changed (option_map (taken_out None)) stores place
    ≡ stores
none_out [] place = refl
none_out (None ∷ stores) zero = refl
none_out (Some s ∷ stores) zero = refl
none_out (s ∷ stores) (suc n) = ap (λ ss. s ∷ ss) (none_out stores n)

first_leaves : (stores : List (Option Stored)) (held : List (List Record)) (place : ℕ) (o : Option Entry)
    → AllHeld stores held → least_of (stored_at stores place) ≡ o
    → (now : List (List Record)) × AllLeave (left_by place o) held now × AllHeld (without_least stores place) now
first_leaves stores held place None st low =
    let same : without_least stores place ≡ stores =
    ap (λ (o : Option Entry). with_changed (option_map (taken_out o)) stores place) low ∙ none_out stores place in
    (held, refl, subst (λ (ss : List (Option Stored)). AllHeld ss held) (sym same) st)
first_leaves stores held place (Some e) st low = let o = one_or_none stores held place e st low in
    (o.now, (o.now, o.leave, refl), o.all_held)

some_leave : (n : ℕ) (stores : List (Option Stored)) (held : List (List Record)) (place : ℕ) → AllHeld stores held
    → SomeLeave stores held place n
some_leave zero stores held place st = record { now = held; leave = refl; all_held = st }
some_leave (suc n) stores held place st =
    let first = first_leaves stores held place (least_of (stored_at stores place)) st refl in
    let rest = some_leave n (without_least stores place) first.0 place first.2 in
    record {
      now = rest.now;
      leave = leave_join (left_by place (least_of (stored_at stores place)))
          (leasts place (without_least stores place) n) held first.0 rest.now first.1 rest.leave;
      all_held = rest.all_held;
    }

pub leasts_leave : (stores : List (Option Stored)) (held : List (List Record)) (place n : ℕ) → AreHeld stores held
    → AreUsable stores
    → (now : List (List Record)) × AllLeave (leasts place stores n) held now
    × AreHeld (without_leasts place stores n) now × AreUsable (without_leasts place stores n)
leasts_leave stores held place n h u =
    let s = some_leave n stores held place (held_stand stores held h u) in (
      s.now,
      s.leave,
      stand_held (without_leasts place stores n) s.now s.all_held,
      stand_usable
          (without_leasts place stores n) s.now s.all_held,
    )
