-- A holder that is emptied holds nothing.
use Rattle.std.proofs.Common.{◌≡◌, ℕ, zero, suc, ◌-◌, ◌<◌, Bool, true, cond, List, [], ◌∷◌, ◌++◌, length, Option, Some, None, is_some, option_map, refl, sym, ap, ◌∙◌, arith, slice_get}
use Rattle.std.specs.FinMap.{entries, get, remove, len, get-empty, len-entries, len-remove, empty_of_len, contains_key}
use Rattle.fx_base.specs.declared.counts.Counts.{Counts}
use Rattle.fx_layout.proofs.Projections.{key_same}
use Rattle.fx_tables.specs.declared.record.Record.{Record}
use Rattle.fx_tables.specs.Network.{Net}
use Rattle.fx_machine.specs.Sums.{total_at}
use Rattle.fx_store.specs.Order.{key_cmp}
use Rattle.fx_store.specs.KeyOrder.{key_cmp_total}
use Rattle.fx_store.specs.Flows.{Flows, Entry, least}
use Rattle.fx_net.specs.Stores.{Stored, flows_in}
use Rattle.fx_net.specs.Contents.{Contents, stored_at}
use Rattle.fx_net.specs.Leaving.{leaver, least_of, least_at, taken_out, without_least, count_of, count_at, after_expire, after_leave, after_leaves, after_leasts, after_emptying}
use Rattle.fx_net.specs.Taking.{left_by, with_stores}
use Rattle.fx_conform.specs.Held.{IsHeld, HeldAt, AreHeld}
use Rattle.fx_conform.specs.Usable.{UsableAt, AreUsable}
use Rattle.fx_conform.specs.Emptying.{leasts, without_leasts, count_in}
use Rattle.fx_conform.proofs.Places.{stored_here}
use Rattle.fx_conform.proofs.UsableStores.{taken_is_usable}
use Rattle.fx_conform.proofs.RecordsOfOneKey.{usable_at, usable_changed}
use Rattle.fx_conform.proofs.CountsTakenIn.{changed_length}
use Rattle.fx_conform.proofs.LeastLeaves.{least_there, without_flows}

-- ---- one less

none_first : (es : List Entry) → slice_get es 0 ≡ None → length es ≡ 0
none_first [] h = refl
none_first (e ∷ es) h = absurd (cc)

one_less : (n : ℕ) (s : Option Stored) → UsableAt s → count_of s ≡ suc n
    → count_of (option_map (taken_out (least_of s)) s) ≡ n
one_less n None u h = absurd (omega arith)
one_less n (Some s) u h = by (least (flows_in s)) refl where
  by : (o : Option Entry) → least (flows_in s) ≡ o → len (flows_in (taken_out o s)) ≡ n
  by None low = let none = len-entries (flows_in s) ∙ none_first (entries (flows_in s)) low in absurd (omega arith)
  by (Some e) low =
      let there : contains_key (flows_in s) e.0 ≡ true = ap is_some (least_there (flows_in s) e low) in
      let less : len (remove (flows_in s) e.0) ≡ len (flows_in s) - 1 = len-remove key_cmp_total (flows_in s) e.0
      ∙ ap (λ (b : Bool). cond b (len (flows_in s) - 1) (len (flows_in s))) there in
      ap (λ (m : Flows). len m) (without_flows s e.0 u) ∙ less ∙ omega arith

none_left : (n : ℕ) (stores : List (Option Stored)) (place : ℕ) → AreUsable stores → count_in stores place ≡ n
    → count_in (without_leasts place stores n) place ≡ 0
none_left zero stores place u h = h
none_left (suc n) stores place u h =
    let low : Option Entry = least_of (stored_at stores place) in
    none_left n (without_least stores place) place (usable_changed (taken_out low) (taken_is_usable low) stores place u)
    (ap count_of (stored_here (taken_out low) stores place)
    ∙ one_less n (stored_at stores place) (usable_at stores place u) h)

as_long : (n : ℕ) (stores : List (Option Stored)) (place : ℕ) → length (without_leasts place stores n) ≡ length stores
as_long zero stores place = refl
as_long (suc n) stores place = as_long n (without_least stores place) place ∙ changed_length _ stores place

-- ---- of no flow nothing is held

no_records : (held : Flows) (rs : List Record) → IsHeld held rs → len held ≡ 0 → rs ≡ []
no_records held [] h none = refl
no_records held (t ∷ ts) h none =
    let here : total_at (t ∷ ts) t.key ≡ Some t.counts =
    ap (λ (b : Bool). cond b (Some t.counts) (total_at ts t.key)) (key_same t.key) in
    let gone : get held t.key ≡ None = ap (λ (m : Flows). get m t.key) (empty_of_len held none)
    ∙ get-empty key_cmp t.key in
    let no : ◌≡◌ {A = Option Counts} (Some t.counts) None = sym here ∙ h.same t.key ∙ gone in
    absurd (cc)

pub holds_nothing : (s : Option Stored) (rs : List Record) → HeldAt s rs → count_of s ≡ 0 → rs ≡ []
holds_nothing None rs h none = h
holds_nothing (Some s) rs h none = no_records (flows_in s) rs h none

nothing_at_place : (stores : List (Option Stored)) (held : List (List Record)) (place : ℕ) → AreHeld stores held → place
    < length stores → count_in stores place ≡ 0 → slice_get held place ≡ Some []
nothing_at_place [] held place h lt none = absurd (omega arith)
nothing_at_place (s ∷ stores) [] place h lt none = absurd h
nothing_at_place (s ∷ stores) (rs ∷ held) zero h lt none =
    ap (λ (ts : List Record). Some ts) (holds_nothing s rs h.0 none)
nothing_at_place (s ∷ stores) (rs ∷ held) (suc place) h lt none =
    nothing_at_place stores held place h.1 (omega arith) none

pub emptied_holds_nothing : (stores : List (Option Stored)) (held : List (List Record)) (place : ℕ) → AreUsable stores
    → place < length stores → AreHeld (without_leasts place stores (count_in stores place)) held → slice_get held place
    ≡ Some []
emptied_holds_nothing stores held place u lt h =
    let n : ℕ = count_in stores place in
    let long = as_long n stores place in
    nothing_at_place (without_leasts place stores n) held place h (omega arith) (none_left n stores place u refl)

-- ---- what a running network does

leasts_are : (net : Net) (place n : ℕ) (c : Contents) → after_leasts net place n c
    ≡ after_leaves net (leasts place c.stores n) (with_stores c (without_leasts place c.stores n))
leasts_are net place zero c = refl
leasts_are net place (suc n) c = by (λ d. leasts_are net place n d) (least_at c place) where
  then_stores : List (Option Stored)
  then_stores = without_least c.stores place

  by : ((d : Contents) → after_leasts net place n d
      ≡ after_leaves net (leasts place d.stores n) (with_stores d (without_leasts place d.stores n)))
      → (o : Option Entry)
      → after_leasts net place n (after_expire net place o (with_stores c then_stores))
      ≡ after_leaves net (left_by place o ++ leasts place then_stores n)
      (with_stores c (without_leasts place then_stores n))
  by ih None = ih (with_stores c then_stores)
  by ih (Some e) = ih (after_leave net (leaver place e) (with_stores c then_stores))

pub emptying_is_leaving : (net : Net) (place : ℕ) (c : Contents) → after_emptying net place c
    ≡ after_leaves net (leasts place c.stores (count_at c place))
    (with_stores c (without_leasts place c.stores (count_at c place)))
emptying_is_leaving net place c = leasts_are net place (count_at c place) c
