-- Stores of which only some hold records, where counts are added and where records leave.
use Rattle.std.proofs.Common.{◌≡◌, ◌⊎◌, inl, inr, ℕ, zero, suc, ◌-◌, Bool, true, cond, List, [], ◌∷◌, length, Option, Some, None, is_some, option_map, refl, sym, ap, ◌∙◌, subst, arith, slice_get}
use Rattle.std.specs.FinMap.{entries, len, len-entries, len-remove, contains_key}
use Rattle.std.specs.List.{AllByRecursion}
use Rattle.std.proofs.lemmas.Bool.{cases_eq}
use Rattle.std.proofs.lemmas.Option.{slice_get_past}
use Rattle.fx_base.specs.declared.counts.Counts.{Counts}
use Rattle.fx_tables.specs.declared.holding.Holding.{Holding}
use Rattle.fx_store.specs.KeyOrder.{key_cmp_total}
use Rattle.fx_store.specs.Flows.{Flows, Entry, least}
use Rattle.fx_net.specs.Contents.{with_changed, stored_at}
use Rattle.fx_net.specs.Leaving.{least_of, taken_out, without_least, count_of}
use Rattle.fx_net.specs.Stores.{Stored, flows_in, with_counts}
use Rattle.fx_net.specs.Taking.{stores_and_leavers}
use Rattle.fx_conform.specs.Emptying.{without_leasts, count_in}
use Rattle.fx_conform.specs.Usable.{UsableAt, AreUsable}
use Rattle.fx_conform.proofs.RecordsOfOneKey.{usable_at, usable_changed}
use Rattle.fx_conform.proofs.LeastLeaves.{least_there, without_flows}
use Rattle.fx_conform.proofs.Places.{stored_here, stored_other}
use Rattle.fx_conform.proofs.CountsTakenIn.{after_one, stores_then}
use Rattle.fx_conform.proofs.UsableStores.{added_is_usable, taken_is_usable}

-- only the stores at these places hold records
abbrev pub OnlyFilled : (ℕ → Type 0) → List (Option Stored) → Type 0
OnlyFilled filled stores = (place : ℕ) → filled place ⊎ (count_in stores place ≡ 0)

pub filled_in_more : (filled more : ℕ → Type 0) (stores : List (Option Stored))
    → ((place : ℕ) → filled place → more place) → OnlyFilled filled stores → OnlyFilled more stores
filled_in_more filled more stores f h place = elim (h place) [ inl here ↦ inl (f place here) | inr none ↦ inr none ]

-- ---- counts are added

count_elsewhere : (f : Option Stored → Option Stored) (stores : List (Option Stored)) (n m : ℕ) → (m ≡ n → ⊥)
    → count_in (with_changed f stores n) m ≡ count_in stores m
count_elsewhere f stores n m ne = ap count_of (stored_other f stores n m ne)

filled_where_changed : (filled : ℕ → Type 0) (f : Option Stored → Option Stored) (stores : List (Option Stored)) (n : ℕ)
    → filled n → OnlyFilled filled stores → OnlyFilled filled (with_changed f stores n)
filled_where_changed filled f stores n there h place = by (cases_eq place n) where
  by : (place ≡ n) ⊎ (place ≡ n → ⊥) → filled place ⊎ (count_in (with_changed f stores n) place ≡ 0)
  by (inl e) = inl (subst filled (sym e) there)
  by (inr ne) = elim (h place) [ inl here ↦ inl here | inr none ↦ inr (count_elsewhere f stores n place ne ∙ none) ]

pub filled_by_adding : (filled : ℕ → Type 0) (counts : Counts) (hs : List Holding) (stores : List (Option Stored))
    → AllByRecursion (λ (h : Holding). filled h.holder) hs → OnlyFilled filled stores
    → OnlyFilled filled (stores_and_leavers stores counts hs).stores
filled_by_adding filled counts [] stores there h = h
filled_by_adding filled counts (x ∷ hs) stores there h =
    subst (OnlyFilled filled) (sym (stores_then counts x hs stores))
    (filled_by_adding filled counts hs (after_one counts x stores) there.1
    (filled_where_changed filled (option_map (λ s. with_counts s x.key counts)) stores x.holder there.0 h))

pub usable_by_adding : (counts : Counts) (hs : List Holding) (stores : List (Option Stored)) → AreUsable stores
    → AreUsable (stores_and_leavers stores counts hs).stores
usable_by_adding counts [] stores u = u
usable_by_adding counts (x ∷ hs) stores u =
    subst AreUsable (sym (stores_then counts x hs stores))
    (usable_by_adding counts hs (after_one counts x stores)
    (usable_changed (λ s. with_counts s x.key counts) (λ s. added_is_usable s x.key counts) stores x.holder u))

-- ---- records leave

none_is_least : (s : Option Stored) → count_of s ≡ 0 → least_of s ≡ None
none_is_least None none = refl
none_is_least (Some s) none = let many = len-entries (flows_in s) in
    slice_get_past (entries (flows_in s)) 0 (omega arith)

none_taken : (s : Option Stored) → count_of s ≡ 0 → count_of (option_map (taken_out (least_of s)) s) ≡ 0
none_taken None none = refl
none_taken (Some s) none = ap (λ (o : Option Entry). count_of (Some (taken_out o s))) (none_is_least (Some s) none)
    ∙ none

filled_by_least : (filled : ℕ → Type 0) (stores : List (Option Stored)) (place : ℕ) → OnlyFilled filled stores
    → OnlyFilled filled (without_least stores place)
filled_by_least filled stores place h n = by (cases_eq n place) where
  take_it : Stored → Stored
  take_it = taken_out (least_of (stored_at stores place))

  by : (n ≡ place) ⊎ (n ≡ place → ⊥) → filled n ⊎ (count_in (without_least stores place) n ≡ 0)
  by (inl e) =
      elim (h place) [
        | inl here ↦ inl (subst filled (sym e) here)
        | inr none ↦ inr (ap (count_in (without_least stores place)) e ∙ ap count_of (stored_here take_it stores place)
            ∙ none_taken (stored_at stores place) none)
      ]
  by (inr ne) = elim (h n) [
    | inl here ↦ inl here
    | inr none ↦
        inr (count_elsewhere (option_map take_it) stores place n ne ∙ none)
  ]

pub filled_by_leasts : (filled : ℕ → Type 0) (n : ℕ) (stores : List (Option Stored)) (place : ℕ)
    → OnlyFilled filled stores → OnlyFilled filled (without_leasts place stores n)
filled_by_leasts filled zero stores place h = h
filled_by_leasts filled (suc n) stores place h =
    filled_by_leasts filled n (without_least stores place) place (filled_by_least filled stores place h)

pub usable_by_leasts : (n : ℕ) (stores : List (Option Stored)) (place : ℕ) → AreUsable stores
    → AreUsable (without_leasts place stores n)
usable_by_leasts zero stores place u = u
usable_by_leasts (suc n) stores place u =
    let low : Option Entry = least_of (stored_at stores place) in
    usable_by_leasts n (without_least stores place) place
    (usable_changed (taken_out low) (taken_is_usable low) stores place u)

-- ---- a holder is emptied

one_fewer : (n : ℕ) (s : Option Stored) → UsableAt s → count_of s ≡ suc n
    → count_of (option_map (taken_out (least_of s)) s) ≡ n
one_fewer n None u many = absurd (omega arith)
one_fewer n (Some s) u many = by (least (flows_in s)) refl where
  by : (o : Option Entry) → least (flows_in s) ≡ o → len (flows_in (taken_out o s)) ≡ n
  by None low =
      let same : len (flows_in s) ≡ length (entries (flows_in s)) = len-entries (flows_in s) in
      absurd (first_there (entries (flows_in s)) n (sym same ∙ many) low) where
        first_there : (es : List Entry) (n : ℕ) → length es ≡ suc n → slice_get es 0 ≡ None → ⊥
        first_there [] n many e = omega arith
        first_there (x ∷ es) n many e = cc
  by (Some e) low =
      let there : contains_key (flows_in s) e.0 ≡ true = ap is_some (least_there (flows_in s) e low) in
      ap (λ (m : Flows). len m) (without_flows s e.0 u) ∙ len-remove key_cmp_total (flows_in s) e.0
      ∙ ap (λ (b : Bool). cond b (len (flows_in s) - 1) (len (flows_in s))) there ∙ omega arith

none_at_last : (n : ℕ) (stores : List (Option Stored)) (place : ℕ) → AreUsable stores → count_in stores place ≡ n
    → count_in (without_leasts place stores n) place ≡ 0
none_at_last zero stores place u many = many
none_at_last (suc n) stores place u many =
    let low : Option Entry = least_of (stored_at stores place) in
    none_at_last n (without_least stores place) place
    (usable_changed (taken_out low) (taken_is_usable low) stores place u)
    (ap count_of (stored_here (taken_out low) stores place)
    ∙ one_fewer n (stored_at stores place) (usable_at stores place u) many)

pub filled_but_emptied : (filled : ℕ → Type 0) (stores : List (Option Stored)) (place : ℕ) → AreUsable stores
    → OnlyFilled filled stores
    → OnlyFilled (λ n. filled n × (n ≡ place → ⊥)) (without_leasts place stores (count_in stores place))
filled_but_emptied filled stores place u h n = by (cases_eq n place) where
  now : List (Option Stored)
  now = without_leasts place stores (count_in stores place)

  by : (n ≡ place) ⊎ (n ≡ place → ⊥) → (filled n × (n ≡ place → ⊥)) ⊎ (count_in now n ≡ 0)
  by (inl e) = inr (ap (count_in now) e ∙ none_at_last (count_in stores place) stores place u refl)
  by (inr ne) = elim (filled_by_leasts filled (count_in stores place) stores place h n)
      [ inl here ↦ inl (here, ne) | inr none ↦ inr none ]
