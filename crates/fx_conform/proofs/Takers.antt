-- Holders without a bound only take in.
use Rattle.std.proofs.Common.{◌≡◌, ◌⊎◌, inl, inr, ℕ, zero, suc, ◌<◌, cond, List, [], ◌∷◌, ◌++◌, length, Option, Some, None, option_map, option_and_then, refl, sym, ap, ◌∙◌, subst, arith}
use Rattle.std.proofs.lemmas.Bool.{cases_eq}
use Rattle.fx_base.specs.declared.counts.Counts.{Counts}
use Rattle.fx_layout.specs.Keys.{Key}
use Rattle.fx_tables.specs.declared.holding.Holding.{Holding}
use Rattle.fx_tables.specs.declared.record.Record.{Record}
use Rattle.fx_machine.specs.Holds.{hold_all}
use Rattle.fx_net.specs.Stores.{Stored, unbounded, bounded, with_counts, makes_room}
use Rattle.fx_net.specs.Contents.{stored_at, is_immediate}
use Rattle.fx_net.specs.Leaving.{leaver}
use Rattle.fx_net.specs.Taking.{Adding, left_by, stores_and_leavers, all_leave_at_once}
use Rattle.fx_conform.specs.Held.{Leaver, AreHeld, AllLeave}
use Rattle.fx_conform.specs.Usable.{AreUsable}
use Rattle.fx_conform.specs.TakingIn.{AreThere, IsUnbounded, AreUnbounded, Join}
use Rattle.fx_conform.proofs.Places.{stored_other, stored_here}
use Rattle.fx_conform.proofs.FactsOfPlaces.{held_stand, stand_held, stand_usable}
use Rattle.fx_conform.proofs.LeavingCommutes.{NoneAt}
use Rattle.fx_conform.proofs.CountsTakenIn.{after_one, stores_then, left_then, AreApart, takes_in}
use Rattle.fx_conform.proofs.ImmediateCaches.{as_many, all_leave}

-- ---- a store without a bound

is_there : (stores : List (Option Stored)) (n : ℕ) → IsUnbounded (stored_at stores n) → n < length stores
is_there [] n u = absurd u
is_there (s ∷ stores) zero u = omega arith
is_there (s ∷ stores) (suc n) u = let lt = is_there stores n u in omega arith

pub are_there : (stores : List (Option Stored)) (hs : List Holding) → AreUnbounded stores hs
    → AreThere (length stores) hs
are_there stores [] u = tt
are_there stores (h ∷ hs) u = (is_there stores h.holder u.0, are_there stores hs u.1)

pushes_none : (key : Key) (counts : Counts) (s : Option Stored) → IsUnbounded s
    → option_and_then (λ s. makes_room s key counts) s ≡ None
pushes_none key counts None u = absurd u
pushes_none key counts (Some (unbounded held)) u = refl
pushes_none key counts (Some (bounded r)) u = absurd u

stays_at_once : (holder : ℕ) (key : Key) (counts : Counts) (s : Option Stored) → IsUnbounded s
    → cond (is_immediate s) (leaver holder (key, counts) ∷ []) [] ≡ []
stays_at_once holder key counts None u = absurd u
stays_at_once holder key counts (Some s) u = refl

added_unbounded : (key : Key) (counts : Counts) (s : Option Stored) → IsUnbounded s
    → IsUnbounded (option_map (λ s. with_counts s key counts) s)
added_unbounded key counts None u = absurd u
added_unbounded key counts (Some (unbounded held)) u = tt
added_unbounded key counts (Some (bounded r)) u = absurd u

-- ---- it stays without one

unbounded_then : (counts : Counts) (h : Holding) (stores : List (Option Stored)) (n : ℕ)
    → IsUnbounded (stored_at stores n) → IsUnbounded (stored_at (after_one counts h stores) n)
unbounded_then counts h stores n u = by (cases_eq n h.holder) where
  by : (n ≡ h.holder) ⊎ (n ≡ h.holder → ⊥) → IsUnbounded (stored_at (after_one counts h stores) n)
  by (inl e) =
      let own : IsUnbounded (stored_at stores h.holder) = subst (λ (m : ℕ). IsUnbounded (stored_at stores m)) e u in
      let here : IsUnbounded (stored_at (after_one counts h stores) h.holder) =
      subst IsUnbounded (sym (stored_here (λ s. with_counts s h.key counts) stores h.holder))
      (added_unbounded h.key counts (stored_at stores h.holder) own) in
      subst (λ (m : ℕ). IsUnbounded (stored_at (after_one counts h stores) m)) (sym e) here
  by (inr ne) = subst IsUnbounded (sym (stored_other (option_map (λ s. with_counts s h.key counts)) stores h.holder n
      ne)) u

all_unbounded : (counts : Counts) (h : Holding) (hs : List Holding) (stores : List (Option Stored))
    → AreUnbounded stores hs → AreUnbounded (after_one counts h stores) hs
all_unbounded counts h [] stores u = tt
all_unbounded counts h (g ∷ hs) stores u =
    (unbounded_then counts h stores g.holder u.0, all_unbounded counts h hs stores u.1)

pub stay_unbounded : (counts : Counts) (hs : List Holding) (stores : List (Option Stored)) (n : ℕ)
    → IsUnbounded (stored_at stores n) → IsUnbounded (stored_at (stores_and_leavers stores counts hs).stores n)
stay_unbounded counts [] stores n u = u
stay_unbounded counts (h ∷ hs) stores n u =
    subst (λ (ss : List (Option Stored)). IsUnbounded (stored_at ss n)) (sym (stores_then counts h hs stores))
    (stay_unbounded counts hs (after_one counts h stores) n (unbounded_then counts h stores n u))

all_stay : (counts : Counts) (gs hs : List Holding) (stores : List (Option Stored)) → AreUnbounded stores hs
    → AreUnbounded (stores_and_leavers stores counts gs).stores hs
all_stay counts gs [] stores u = tt
all_stay counts gs (h ∷ hs) stores u = (stay_unbounded counts gs stores h.holder u.0, all_stay counts gs hs stores u.1)

-- ---- nothing leaves

none_left : (counts : Counts) (hs : List Holding) (stores : List (Option Stored)) → AreUnbounded stores hs
    → (stores_and_leavers stores counts hs).left ≡ []
none_left counts [] stores u = refl
none_left counts (h ∷ hs) stores u =
    left_then counts h hs stores
    ∙ ap (λ (o : Option _). left_by h.holder o ++ (stores_and_leavers (after_one counts h stores) counts hs).left)
    (pushes_none h.key counts (stored_at stores h.holder) u.0)
    ∙ none_left counts hs (after_one counts h stores) (all_unbounded counts h hs stores u.1)

none_at_once : (counts : Counts) (hs : List Holding) (stores : List (Option Stored)) → AreUnbounded stores hs
    → all_leave_at_once stores counts hs ≡ []
none_at_once counts [] stores u = refl
none_at_once counts (h ∷ hs) stores u =
    ap (λ (ls : List Leaver). ls ++ all_leave_at_once stores counts hs)
    (stays_at_once h.holder h.key counts (stored_at stores h.holder) u.0) ∙ none_at_once counts hs stores u.1

apart_unbounded : (counts : Counts) (hs : List Holding) (stores : List (Option Stored)) → AreUnbounded stores hs
    → AreApart counts hs stores
apart_unbounded counts [] stores u = tt
apart_unbounded counts (h ∷ hs) stores u =
    let then_u = all_unbounded counts h hs stores u.1 in (
      subst (NoneAt h.holder) (sym (none_left counts hs (after_one counts h stores) then_u)) tt,
      apart_unbounded counts
          hs (after_one counts h stores) then_u,
    )

-- ---- all of them

pub takers_join : (stores : List (Option Stored)) (held : List (List Record)) (counts : Counts) (hs : List Holding)
    → AreHeld stores held → AreUsable stores → AreUnbounded stores hs → Join stores counts hs held
takers_join stores held counts hs h u all =
    let a : Adding = stores_and_leavers stores counts hs in
    let there = are_there stores hs all in
    let t = takes_in counts hs (λ n. []) stores held there (apart_unbounded counts hs stores all)
    (held_stand stores held h u) in
    let there2 : AreThere (length a.stores) hs =
    subst (λ (n : ℕ). AreThere n hs) (sym (as_many counts hs (record { stores = stores; left = [] }))) there in
    let d = all_leave counts hs a.stores t.now there2 t.stands in
    let then_all : AreUnbounded a.stores hs = all_stay counts hs hs stores all in
    let left = none_left counts hs stores all in
    let at_once = none_at_once counts hs a.stores then_all in
    let room : t.room ≡ held = subst (λ (ls : List Leaver). AllLeave ls held t.room) left t.leave in
    let final : d.final ≡ t.now = subst (λ (ls : List Leaver). AllLeave ls t.now d.final) at_once d.leave in
    record {
      now = t.now;
      choices = t.choices;
      none_left = left;
      taken_in = subst (λ (rss : List (List Record)). hold_all counts hs rss t.choices ≡ Some t.now) room t.taken;
      none_at_once = at_once;
      held_then = subst (AreHeld a.stores) final (stand_held a.stores d.final d.held);
      usable_then = stand_usable a.stores d.final d.held;
      unbounded_then = then_all;
    }
