-- What stores take in and what leaves them, worked out by the definitions.
use Rattle.std.proofs.Common.{◌≡◌, ℕ, Bool, cond, [], ◌∷◌, Option, Some, None, refl, sym, ap, ◌∙◌, arith}
use Rattle.fx_base.specs.declared.counts.Counts.{Counts}
use Rattle.fx_tables.specs.declared.holding.Holding.{Holding}
use Rattle.fx_tables.specs.declared.record.Record.{Record}
use Rattle.fx_machine.specs.Holds.{hold_all}
use Rattle.fx_machine.proofs.ClaimExamples.{first, second}
use Rattle.fx_store.proofs.Recency.{counted}
use Rattle.std.specs.List.{IsDistinct}
use Rattle.fx_net.specs.Stores.{Stored, bounded}
use Rattle.fx_net.specs.Leaving.{leaver}
use Rattle.fx_net.specs.Taking.{stores_and_leavers, all_leave_at_once}
use Rattle.fx_conform.specs.Held.{AreHeld, AllLeave}
use Rattle.fx_conform.specs.Usable.{AreUsable}
use Rattle.fx_conform.specs.TakingIn.{TakesIn}
use Rattle.fx_conform.proofs.JoinedRecords.{turned}
use Rattle.fx_conform.proofs.ImmediateCaches.{taking_in}

one : Counts
one = record { packets = 1; octets = 60 }

-- the second key, at the only holder
met : Holding
met = record { holder = 0; key = second.key }

-- a cache with room for so many flows, and the first record in it
abbrev filled : ℕ → Option Stored
filled most = Some (bounded (record { entries = (first.key, first.counts) ∷ []; capacity = most }))

abbrev emptied : ℕ → Option Stored
emptied most = Some (bounded (record { entries = []; capacity = most }))

-- ---- a record that makes room

-- a full cache's record leaves
pushed_out : (stores_and_leavers (filled 1 ∷ []) one (met ∷ [])).left ≡ leaver 0 (first.key, first.counts) ∷ []
unfolding met one
pushed_out = refl

-- before the packet's own is taken in
leaves_first : AllLeave (leaver 0 (first.key, first.counts) ∷ []) ((first ∷ []) ∷ []) ([] ∷ [])
leaves_first = ([] ∷ [], record { number = 1; rs = first ∷ []; there = refl; flow_is = refl; now_is = refl }, refl)

then_taken_in : hold_all one (met ∷ []) ([] ∷ []) (None ∷ [])
    ≡ Some ((record { key = second.key; counts = one } ∷ []) ∷ [])
unfolding met
then_taken_in = refl

-- where there is room nothing leaves
no_room_needed : (stores_and_leavers (filled 2 ∷ []) one (met ∷ [])).left ≡ []
unfolding met one
no_room_needed = refl

-- the record is the cache's one flow
is_held : (most : ℕ) → AreHeld (filled most ∷ []) ((first ∷ []) ∷ [])
is_held most = (
  record {
    differ = (tt, tt);
    same = λ key. ap (λ (b : Bool). cond {A = Option Counts} b (Some first.counts) None) (turned first.key key)
        ∙ sym (counted key ((first.key, first.counts) ∷ []));
  },
  tt,
)

is_usable : AreUsable (filled 1 ∷ [])
unfolding IsDistinct
is_usable = (record { differ = (tt, tt); some = omega arith; room = omega arith }, tt)

-- so that the law holds of it
takes_in : TakesIn (filled 1 ∷ []) one (met ∷ []) ((first ∷ []) ∷ [])
unfolding met
takes_in = taking_in (filled 1 ∷ []) ((first ∷ []) ∷ []) one (λ place. second.key) (met ∷ []) (is_held 1) is_usable
    (omega arith, tt) (refl, tt)

-- ---- two occurrences at one cache

-- count twice in one record
abbrev twice : Record
twice = record { key = second.key; counts = record { packets = 2; octets = 120 } }

counted_twice : (stores_and_leavers (emptied 2 ∷ []) one (met ∷ met ∷ [])).stores
    ≡ Some (bounded (record { entries = (second.key, twice.counts) ∷ []; capacity = 2 })) ∷ []
unfolding met one
counted_twice = refl

one_record : hold_all one (met ∷ met ∷ []) ([] ∷ []) (None ∷ Some 1 ∷ []) ≡ Some ((twice ∷ []) ∷ [])
unfolding met one
one_record = refl

-- in an immediate cache they are two records, which both leave
two_records : hold_all one (met ∷ met ∷ []) ([] ∷ []) (None ∷ None ∷ [])
    ≡ Some ((record { key = second.key; counts = one } ∷ record { key = second.key; counts = one } ∷ []) ∷ [])
unfolding met
two_records = refl

both_leave : all_leave_at_once (None ∷ []) one (met ∷ met ∷ []) ≡ leaver 0 (second.key, one)
    ∷ leaver 0 (second.key, one) ∷ []
unfolding met
both_leave = refl

nothing_left : AllLeave (leaver 0 (second.key, one) ∷ leaver 0 (second.key, one) ∷ [])
    ((record { key = second.key; counts = one } ∷ record { key = second.key; counts = one } ∷ []) ∷ []) ([] ∷ [])
nothing_left =
    let r : Record = record { key = second.key; counts = one } in
    let last : AllLeave (leaver 0 (second.key, one) ∷ []) ((r ∷ []) ∷ []) ([] ∷ []) =
    ([] ∷ [], record { number = 1; rs = r ∷ []; there = refl; flow_is = refl; now_is = refl }, refl) in
    ((r ∷ []) ∷ [], record { number = 1; rs = r ∷ r ∷ []; there = refl; flow_is = refl; now_is = refl }, last)

-- two records of one key are not what a store's one flow is held by
not_held : (most : ℕ) → AreHeld (filled most ∷ []) ((first ∷ first ∷ []) ∷ []) → ⊥
not_held most h = let same = h.0.differ.0.0 in absurd (cc)
