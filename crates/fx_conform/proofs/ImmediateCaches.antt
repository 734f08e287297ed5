-- The records of immediate caches leave, and then all that was taken in is held.
use Rattle.std.proofs.Common.{◌≡◌, ℕ, Bool, true, false, cond, List, [], ◌∷◌, ◌++◌, length, Option, Some, None, refl, sym, ap, ◌∙◌, subst, slice_get, slice_set}
use Rattle.fx_base.specs.declared.counts.Counts.{Counts}
use Rattle.fx_layout.specs.Keys.{Key}
use Rattle.fx_elements.specs.Axes.{Fields}
use Rattle.fx_tables.specs.declared.holding.Holding.{Holding}
use Rattle.fx_tables.specs.declared.observation.Occurrence.{Occurrence}
use Rattle.fx_tables.specs.declared.record.Record.{Record}
use Rattle.fx_tables.specs.Network.{Holder, AggregationEntry, takes_with}
use Rattle.fx_tables.specs.Takers.{intakes}
use Rattle.fx_tables.specs.Holdings.{met_holdings}
use Rattle.fx_net.specs.Stores.{Stored}
use Rattle.fx_net.specs.Contents.{inner_option, is_immediate}
use Rattle.fx_net.specs.Leaving.{leaver}
use Rattle.fx_net.specs.Taking.{Adding, with_holdings, with_holding, stores_and_leavers, leaves_at_once, all_leave_at_once}
use Rattle.fx_conform.specs.Held.{Leaver, AreHeld, Leave, AllLeave}
use Rattle.fx_conform.specs.Usable.{AreUsable}
use Rattle.fx_conform.specs.TakingIn.{AreThere, HaveKeys, TakesIn, packet_key, record_key}
use Rattle.fx_conform.proofs.Places.{set_same}
use Rattle.fx_conform.proofs.FactsOfPlaces.{Stand, standing, stand_set, Holds, AllHeld, held_stand, stand_held, stand_usable}
use Rattle.fx_conform.proofs.LeavingCommutes.{leave_join}
use Rattle.fx_conform.proofs.CountsTakenIn.{waiting_at, one_here, one_other, changed_length, takes_in}
use Rattle.fx_conform.proofs.RecordsOfOneKey.{apart_by_keys}

-- ---- one of them

record Turn (counts : Counts) (h : Holding) (hs : List Holding) (stores : List (Option Stored))
    (now : List (List Record)) : Type 0 where
  mid : List (List Record)
  leave : AllLeave (leaves_at_once stores counts h) now mid
  stands : Stand (λ n. Holds (waiting_at counts hs n)) stores mid

module _ (counts : Counts) (h : Holding) (hs : List Holding) (stores : List (Option Stored)) (now : List (List Record))
  where
    others : (m : ℕ) (t : Option Stored) (ts : List Record) → (m ≡ h.holder → ⊥)
        → Holds (waiting_at counts (h ∷ hs) m) t ts → Holds (waiting_at counts hs m) t ts
    others m t ts ne q = subst (λ (rs : List Record). Holds rs t ts)
        (ap (λ (rs : List Record). rs ++ waiting_at counts hs m) (one_other counts h m ne)) q

    leaves_is : (s : Option Stored) → slice_get stores h.holder ≡ Some s
        → cond (is_immediate s) (leaver h.holder (h.key, counts) ∷ []) [] ≡ leaves_at_once stores counts h
    leaves_is s at = ap (λ (o : Option Stored). cond (is_immediate o) (leaver h.holder (h.key, counts) ∷ []) [])
        (sym (ap inner_option at))

    turn : (s : Option Stored) (rs : List Record) → slice_get stores h.holder ≡ Some s → slice_get now h.holder
        ≡ Some rs
        → Holds (waiting_at counts (h ∷ hs) h.holder) s rs
        → Stand (λ n. Holds (waiting_at counts (h ∷ hs) n)) stores now
        → Turn counts h hs stores now
    turn None rs at records_are q st =
        let rest : List Record = waiting_at counts hs h.holder in
        let mid : List (List Record) = slice_set now h.holder rest in
        let rs_is : rs ≡ record { key = h.key; counts = counts } ∷ rest = q
        ∙ ap (λ (ts : List Record). ts ++ rest) (one_here counts h) in
        let one : Leave (leaver h.holder (h.key, counts)) now mid =
        record {
          number = 1;
          rs = record { key = h.key; counts = counts } ∷ rest;
          there = records_are
              ∙ ap (λ (ts : List Record). Some ts) rs_is;
          flow_is = refl;
          now_is = refl;
        } in
        record {
          mid = mid;
          leave = subst (λ (ls : List Leaver). AllLeave ls now mid) (leaves_is None at) (mid, one, refl);
          stands = subst (λ (ss : List (Option Stored)). Stand (λ n. Holds (waiting_at counts hs n)) ss mid)
              (set_same stores h.holder None at)
              (stand_set (λ n. Holds (waiting_at counts (h ∷ hs) n)) (λ n. Holds (waiting_at counts hs n)) stores now
              h.holder None rest st refl others);
        }
    turn (Some s) rs at records_are q st =
        record {
          mid = now;
          leave = subst (λ (ls : List Leaver). AllLeave ls now now) (leaves_is (Some s) at) refl;
          stands = subst (λ (ss : List (Option Stored)). Stand (λ n. Holds (waiting_at counts hs n)) ss now)
              (set_same stores h.holder (Some s) at)
              (subst (λ (rss : List (List Record)). Stand (λ n. Holds (waiting_at counts hs n))
              (slice_set stores h.holder (Some s)) rss) (set_same now h.holder rs records_are)
              (stand_set (λ n. Holds (waiting_at counts (h ∷ hs) n)) (λ n. Holds (waiting_at counts hs n)) stores now
              h.holder (Some s) rs st q others));
        }

-- ---- all of them

pub record Done (counts : Counts) (hs : List Holding) (stores : List (Option Stored)) (now : List (List Record)) : Type
    0 where
  pub final : List (List Record)
  pub leave : AllLeave (all_leave_at_once stores counts hs) now final
  pub held : AllHeld stores final

pub all_leave : (counts : Counts) (hs : List Holding) (stores : List (Option Stored)) (now : List (List Record))
    → AreThere (length stores) hs → Stand (λ n. Holds (waiting_at counts hs n)) stores now → Done counts hs stores now
all_leave counts [] stores now there st = record { final = now; leave = refl; held = st }
all_leave counts (h ∷ hs) stores now there st =
    let at = standing (λ n. Holds (waiting_at counts (h ∷ hs) n)) stores now h.holder st there.0 in
    let one = turn counts h hs stores now at.s at.rs at.store_is at.records_are at.fact st in
    let rest = all_leave counts hs stores one.mid there.1 one.stands in
    record {
      final = rest.final;
      leave = leave_join (leaves_at_once stores counts h) (all_leave_at_once stores counts hs) now one.mid rest.final
          one.leave rest.leave;
      held = rest.held;
    }

-- ---- from first to last

pub as_many : (counts : Counts) (hs : List Holding) (a : Adding) → length (with_holdings counts hs a).stores
    ≡ length a.stores
as_many counts [] a = refl
as_many counts (h ∷ hs) a = as_many counts hs (with_holding counts h a) ∙ changed_length _ a.stores h.holder

pub taking_in : (stores : List (Option Stored)) (held : List (List Record)) (counts : Counts) (keys : ℕ → Key)
    (hs : List Holding) → AreHeld stores held → AreUsable stores → AreThere (length stores) hs → HaveKeys keys hs
    → TakesIn stores counts hs held
taking_in stores held counts keys hs h u there have =
    let a : Adding = stores_and_leavers stores counts hs in
    let t = takes_in counts hs (λ n. []) stores held there (apart_by_keys counts keys hs stores have u)
    (held_stand stores held h u) in
    let there2 : AreThere (length a.stores) hs =
    subst (λ (n : ℕ). AreThere n hs) (sym (as_many counts hs (record { stores = stores; left = [] }))) there in
    let d = all_leave counts hs a.stores t.now there2 t.stands in
    record {
      room = t.room;
      now = t.now;
      final = d.final;
      choices = t.choices;
      makes_room = t.leave;
      taken_in = t.taken;
      at_once = d.leave;
      held_then = stand_held a.stores d.final d.held;
      usable_then = stand_usable a.stores d.final d.held;
    }

-- ---- keys

pub met_have_keys : (holders : List Holder) (fields : Fields) (os : List Occurrence)
    → HaveKeys (packet_key holders fields) (met_holdings holders fields os)
met_have_keys holders fields [] = tt
met_have_keys holders fields (o ∷ os) = (refl, met_have_keys holders fields os)

pub aggregated_have_keys : (holders : List Holder) (key : Key) (aggregations : List AggregationEntry)
    → HaveKeys (record_key holders key) (intakes holders key aggregations)
aggregated_have_keys holders key [] = tt
aggregated_have_keys holders key (a ∷ rest) =
    by (aggregated_have_keys holders key rest) (takes_with holders key a) where
      by : HaveKeys (record_key holders key) (intakes holders key rest) → (b : Bool)
          → HaveKeys (record_key holders key) (cond b
          (record { holder = a.holder; key = record_key holders key a.holder } ∷ []) [] ++ intakes holders key rest)
      by ih true = (refl, ih)
      by ih false = ih
