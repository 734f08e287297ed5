-- Where two records at one holder have one key, only the first pushes something out.
use Rattle.std.proofs.Common.{◌≡◌, ◌⊎◌, inl, inr, ℕ, zero, suc, ◌≤◌, Bool, cond, List, [], ◌∷◌, ◌++◌, length, take, Option, Some, None, option_map, option_and_then, refl, sym, ap, subst, arith}
use Rattle.std.proofs.lemmas.Bool.{cases_eq}
use Rattle.std.proofs.lemmas.Option.{slice_get_past}
use Rattle.fx_base.specs.declared.counts.Counts.{Counts}
use Rattle.fx_layout.specs.Keys.{Key}
use Rattle.fx_layout.proofs.Projections.{key_same}
use Rattle.fx_tables.specs.declared.holding.Holding.{Holding}
use Rattle.fx_store.specs.Flows.{Entry, with_more}
use Rattle.fx_store.specs.Recent.{counts_at, without_key, with_latest}
use Rattle.fx_store.proofs.Recency.{entry_at}
use Rattle.fx_net.specs.Stores.{Stored, unbounded, bounded, with_counts, makes_room}
use Rattle.fx_net.specs.Contents.{with_changed, stored_at}
use Rattle.fx_net.specs.Taking.{left_by, stores_and_leavers}
use Rattle.fx_conform.specs.Held.{Leaver}
use Rattle.fx_conform.specs.Usable.{IsRecent, IsUsable, UsableAt, AreUsable}
use Rattle.fx_conform.specs.TakingIn.{HaveKeys}
use Rattle.fx_conform.proofs.Places.{stored_other, stored_here}
use Rattle.fx_conform.proofs.UsableStores.{added_is_usable}
use Rattle.fx_conform.proofs.LeavingCommutes.{NoneAt, none_join}
use Rattle.fx_conform.proofs.CountsTakenIn.{after_one, out_by, left_then, AreApart}

-- ---- a store that has a key

-- a bounded one has it
abbrev HasKey : Key → Option Stored → Type 0
HasKey key None = Unit {0}
HasKey key (Some (unbounded held)) = Unit {0}
HasKey key (Some (bounded r)) = IsRecent r × (c : Counts) × (counts_at r.entries key ≡ Some c)

still_usable : (key : Key) (s : Option Stored) → HasKey key s → UsableAt s
still_usable key None has = tt
still_usable key (Some (unbounded held)) has = tt
still_usable key (Some (bounded r)) has = has.0

first_there : (key : Key) (c : Counts) (es : List Entry) (n : ℕ) → 1 ≤ n → counts_at (take n ((key, c) ∷ es)) key
    ≡ Some c
first_there key c es zero le = absurd (omega arith)
first_there key c es (suc n) le = ap (λ (b : Bool). cond b (Some c) (counts_at (take n es) key)) (key_same key)

has_then : (key : Key) (counts : Counts) (s : Option Stored) → UsableAt s
    → HasKey key (option_map (λ s. with_counts s key counts) s)
has_then key counts None u = tt
has_then key counts (Some (unbounded held)) u = tt
has_then key counts (Some (bounded r)) u =
    let c : Counts = with_more (counts_at r.entries key) counts in
    (added_is_usable (bounded r) key counts u, c, first_there key c (without_key r.entries key) r.capacity u.some)

-- such a store pushes nothing out for the key
pushes_none : (key : Key) (counts : Counts) (s : Option Stored) → HasKey key s
    → option_and_then (λ s. makes_room s key counts) s ≡ None
pushes_none key counts None has = refl
pushes_none key counts (Some (unbounded held)) has = refl
pushes_none key counts (Some (bounded r)) has =
    let less = (entry_at key r.entries has.1 has.2).1 in
    let room = has.0.room in
    let fits : length (with_latest r.entries key counts) ≤ r.capacity = omega (arith, less, room) in
    slice_get_past (with_latest r.entries key counts) r.capacity fits

-- ---- usable stores

pub usable_at : (stores : List (Option Stored)) (n : ℕ) → AreUsable stores → UsableAt (stored_at stores n)
usable_at [] n u = tt
usable_at (s ∷ stores) zero u = u.0
usable_at (s ∷ stores) (suc n) u = usable_at stores n u.1

pub usable_changed : (f : Stored → Stored) → ((s : Stored) → IsUsable s → IsUsable (f s))
    → (stores : List (Option Stored)) (n : ℕ) → AreUsable stores → AreUsable (with_changed (option_map f) stores n)
usable_changed f keeps [] n u = tt
usable_changed f keeps (None ∷ stores) zero u = u
usable_changed f keeps (Some s ∷ stores) zero u = (keeps s u.0, u.1)
usable_changed f keeps (s ∷ stores) (suc n) u = (u.0, usable_changed f keeps stores n u.1)

-- ---- later ones

none_of : (n holder : ℕ) (out : Option Entry) → (holder ≡ n → ⊥) → NoneAt n (left_by holder out)
none_of n holder None ne = tt
none_of n holder (Some e) ne = (λ same. ne (sym same), tt)

none_at : (counts : Counts) (keys : ℕ → Key) (hs : List Holding) (n : ℕ) (stores : List (Option Stored))
    → HaveKeys keys hs → HasKey (keys n) (stored_at stores n) → NoneAt n (stores_and_leavers stores counts hs).left
none_at counts keys [] n stores have has = tt
none_at counts keys (h ∷ hs) n stores have has =
    subst (NoneAt n) (sym (left_then counts h hs stores))
    (by (λ g. none_at counts keys hs n (after_one counts h stores) have.1 g) (cases_eq h.holder n))
  where
    later : List Leaver
    later = (stores_and_leavers (after_one counts h stores) counts hs).left

    by : (HasKey (keys n) (stored_at (after_one counts h stores) n) → NoneAt n later) → (h.holder ≡ n)
        ⊎ (h.holder ≡ n → ⊥) → NoneAt n (out_by counts h stores ++ later)
    by rest (inl e) =
        let here : HasKey (keys h.holder) (stored_at stores h.holder) =
        subst (λ (m : ℕ). HasKey (keys m) (stored_at stores m)) (sym e) has in
        let own : HasKey h.key (stored_at stores h.holder) =
        subst (λ (k : Key). HasKey k (stored_at stores h.holder)) (sym have.0) here in
        let none : out_by counts h stores ≡ [] =
        ap (left_by h.holder) (pushes_none h.key counts (stored_at stores h.holder) own) in
        let then_own : HasKey h.key (stored_at (after_one counts h stores) h.holder) =
        subst (HasKey h.key) (sym (stored_here (λ s. with_counts s h.key counts) stores h.holder))
        (has_then h.key counts (stored_at stores h.holder) (still_usable h.key _ own)) in
        let then_here : HasKey (keys h.holder) (stored_at (after_one counts h stores) h.holder) =
        subst (λ (k : Key). HasKey k (stored_at (after_one counts h stores) h.holder)) have.0 then_own in
        let then_has : HasKey (keys n) (stored_at (after_one counts h stores) n) =
        subst (λ (m : ℕ). HasKey (keys m) (stored_at (after_one counts h stores) m)) e then_here in
        subst (λ (ls : List Leaver). NoneAt n (ls ++ later)) (sym none) (rest then_has)
    by rest (inr ne) =
        none_join n (out_by counts h stores) later
        (none_of n h.holder (option_and_then (λ s. makes_room s h.key counts) (stored_at stores h.holder)) ne)
        (rest (subst (HasKey (keys n)) (sym (stored_other (option_map (λ s. with_counts s h.key counts)) stores h.holder
        n (λ e. ne (sym e)))) has))

pub apart_by_keys : (counts : Counts) (keys : ℕ → Key) (hs : List Holding) (stores : List (Option Stored))
    → HaveKeys keys hs → AreUsable stores → AreApart counts hs stores
apart_by_keys counts keys [] stores have u = tt
apart_by_keys counts keys (h ∷ hs) stores have u =
    let own : HasKey h.key (stored_at (after_one counts h stores) h.holder) =
    subst (HasKey h.key) (sym (stored_here (λ s. with_counts s h.key counts) stores h.holder))
    (has_then h.key counts (stored_at stores h.holder) (usable_at stores h.holder u)) in
    let has : HasKey (keys h.holder) (stored_at (after_one counts h stores) h.holder) =
    subst (λ (k : Key). HasKey k (stored_at (after_one counts h stores) h.holder)) have.0 own in (
      none_at counts keys hs h.holder (after_one counts h stores) have.1 has,
      apart_by_keys counts keys hs (after_one counts h stores) have.1
          (usable_changed (λ s. with_counts s h.key counts) (λ s. added_is_usable s h.key counts) stores h.holder u),
    )
