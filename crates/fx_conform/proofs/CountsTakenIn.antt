-- Holders take counts in: what makes room leaves first, and the records of immediate caches leave last.
use Rattle.std.proofs.Common.{◌≡◌, ℕ, zero, suc, eqb, Bool, true, false, cond, List, [], ◌∷◌, ◌++◌, length, Option, Some, None, option_map, option_and_then, refl, sym, ap, ◌∙◌, subst, slice_get, slice_set, append_assoc, append-nil}
use Rattle.std.proofs.lemmas.Bool.{eq-eqb, eqb-true}
use Rattle.fx_base.specs.declared.counts.Counts.{Counts}
use Rattle.fx_layout.specs.Keys.{Key}
use Rattle.fx_tables.specs.declared.holding.Holding.{Holding}
use Rattle.fx_tables.specs.declared.record.Record.{Record}
use Rattle.fx_machine.specs.Acts.{Choices, taken_in}
use Rattle.fx_machine.specs.Holds.{take_in_at, put_in, held_with, hold_all}
use Rattle.fx_machine.specs.States.{without}
use Rattle.fx_store.specs.Flows.{Flows, Entry, Adds}
use Rattle.fx_net.specs.Stores.{Stored, flows_in, with_counts, makes_room}
use Rattle.fx_net.specs.Contents.{with_changed, inner_option, stored_at}
use Rattle.fx_net.specs.Taking.{Adding, left_by, with_holdings, stores_and_leavers}
use Rattle.fx_conform.specs.Held.{Leaver, IsHeld, AllLeave}
use Rattle.fx_conform.specs.TakingIn.{AreThere}
use Rattle.fx_conform.proofs.Places.{at_set, set_same, set_twice, changed_is}
use Rattle.fx_conform.proofs.JoinedRecords.{joins_are_made}
use Rattle.fx_conform.proofs.RemovedRecords.{leavings_are_made}
use Rattle.fx_conform.proofs.UsableStores.{added_is_usable, adds_to}
use Rattle.fx_conform.proofs.FactsOfPlaces.{Stand, standing, stand_map, stand_set, Holds}
use Rattle.fx_conform.proofs.LeavingCommutes.{leave_join, NoneAt, leave_before}

-- ---- one after another

-- the stores once a holding was added to
abbrev pub after_one : Counts → Holding → List (Option Stored) → List (Option Stored)
after_one counts h stores = with_changed (option_map (λ s. with_counts s h.key counts)) stores h.holder

-- what it pushes out
abbrev pub out_by : Counts → Holding → List (Option Stored) → List Leaver
out_by counts h stores = left_by h.holder (option_and_then (λ s. makes_room s h.key counts) (stored_at stores h.holder))

stores_more : (counts : Counts) (hs : List Holding) (stores : List (Option Stored)) (left : List Leaver)
    → (with_holdings counts hs (record { stores = stores; left = left })).stores
    ≡ (stores_and_leavers stores counts hs).stores
stores_more counts [] stores left = refl
stores_more counts (h ∷ hs) stores left =
    stores_more counts hs (after_one counts h stores) (left ++ out_by counts h stores)
    ∙ sym (stores_more counts hs (after_one counts h stores) (out_by counts h stores))

left_more : (counts : Counts) (hs : List Holding) (stores : List (Option Stored)) (left : List Leaver)
    → (with_holdings counts hs (record { stores = stores; left = left })).left ≡ left
    ++ (stores_and_leavers stores counts hs).left
left_more counts [] stores left = sym (append-nil left)
left_more counts (h ∷ hs) stores left =
    left_more counts hs (after_one counts h stores) (left ++ out_by counts h stores)
    ∙ append_assoc left (out_by counts h stores) (stores_and_leavers (after_one counts h stores) counts hs).left
    ∙ ap (λ (ls : List Leaver). left ++ ls)
    (sym (left_more counts hs (after_one counts h stores) (out_by counts h stores)))

pub stores_then : (counts : Counts) (h : Holding) (hs : List Holding) (stores : List (Option Stored))
    → (stores_and_leavers stores counts (h ∷ hs)).stores
    ≡ (stores_and_leavers (after_one counts h stores) counts hs).stores
stores_then counts h hs stores = stores_more counts hs (after_one counts h stores) (out_by counts h stores)

pub left_then : (counts : Counts) (h : Holding) (hs : List Holding) (stores : List (Option Stored))
    → (stores_and_leavers stores counts (h ∷ hs)).left ≡ out_by counts h stores
    ++ (stores_and_leavers (after_one counts h stores) counts hs).left
left_then counts h hs stores = left_more counts hs (after_one counts h stores) (out_by counts h stores)

-- ---- one holder

-- the records that wait at an immediate cache
abbrev pub one_at : Counts → Holding → ℕ → List Record
one_at counts h n = cond (eqb h.holder n) (record { key = h.key; counts = counts } ∷ []) []

abbrev pub waiting_at : Counts → List Holding → ℕ → List Record
waiting_at counts [] n = []
waiting_at counts (h ∷ hs) n = one_at counts h n ++ waiting_at counts hs n

-- what makes room leaves, and then the record is taken in
record Room (n : ℕ) (out : List Leaver) (rs : List Record) (key : Key) (counts : Counts) (Then : List Record → Type 0) :
    Type 0 where
  ready : List Record
  choice : Option ℕ
  new : List Record
  leaves : (held : List (List Record)) → slice_get held n ≡ Some rs → AllLeave out held (slice_set held n ready)
  taken : taken_in ready choice (record { key = key; counts = counts }) ≡ Some new
  then_is : Then new

room_made : (n : ℕ) (old new : Flows) (key : Key) (counts : Counts) (out : Option Entry) (rs : List Record)
    → Adds old new key counts out → IsHeld old rs → Room n (left_by n out) rs key counts (IsHeld new)
room_made n old new key counts None rs adds h =
    let j = joins_are_made old rs key counts h in
    record {
      ready = rs;
      choice = j.0;
      new = j.1;
      leaves = λ held at. set_same held n rs at;
      taken = j.3;
      then_is = subst (λ (m : Flows). IsHeld m j.1) (sym adds.flows) j.4;
    }
room_made n old new key counts (Some e) rs adds h =
    let l = leavings_are_made old rs e.0 e.1 h adds.whole.1 in
    let j = joins_are_made _ (without rs l.0) key counts l.2 in
    record {
      ready = without rs l.0;
      choice = j.0;
      new = j.1;
      leaves = λ held at. (
        slice_set held n (without rs l.0),
        record { number = l.0; rs = rs; there = at; flow_is = l.1; now_is = refl },
        refl,
      );
      taken = j.3;
      then_is = subst (λ (m : Flows). IsHeld m j.1) (sym adds.flows) j.4;
    }

comes_in : (n : ℕ) (key : Key) (counts : Counts) (waiting : List Record) (s : Option Stored) (rs : List Record)
    → Holds waiting s rs
    → Room n (left_by n (option_and_then (λ s. makes_room s key counts) s)) rs key counts
    (Holds (waiting ++ record { key = key; counts = counts } ∷ []) (option_map (λ s. with_counts s key counts) s))
comes_in n key counts waiting None rs h = record {
  ready = rs;
  choice = None;
  new = rs ++ record { key = key; counts = counts } ∷ [];
  leaves = λ held at. set_same held n rs at;
  taken = refl;
  then_is = ap (λ (ts : List Record). ts ++ record { key = key; counts = counts } ∷ []) h;
}
comes_in n key counts waiting (Some s) rs h =
    let r = room_made n (flows_in s) (flows_in (with_counts s key counts)) key counts (makes_room s key counts) rs
    (adds_to s key counts h.1) h.0 in
    record {
      ready = r.ready;
      choice = r.choice;
      new = r.new;
      leaves = r.leaves;
      taken = r.taken;
      then_is =
          (r.then_is, added_is_usable s key counts h.1);
    }

-- ---- all of them

-- what later ones push out leaves elsewhere
abbrev pub AreApart : Counts → List Holding → List (Option Stored) → Type 0
AreApart counts [] stores = Unit {0}
AreApart counts (h ∷ hs) stores =
    NoneAt h.holder (stores_and_leavers (after_one counts h stores) counts hs).left
    × AreApart counts hs (after_one counts h stores)

pub record Takes (waiting : ℕ → List Record) (stores : List (Option Stored)) (counts : Counts) (hs : List Holding)
    (held : List (List Record)) (a : Adding) : Type 0 where
  pub room : List (List Record)
  pub now : List (List Record)
  pub choices : Choices
  pub leave : AllLeave a.left held room
  pub taken : hold_all counts hs room choices ≡ Some now
  pub stands : Stand (λ n. Holds (waiting n ++ waiting_at counts hs n)) a.stores now

pub one_other : (counts : Counts) (h : Holding) (n : ℕ) → (n ≡ h.holder → ⊥) → one_at counts h n ≡ []
one_other counts h n ne = by (eqb h.holder n) refl where
  by : (b : Bool) → eqb h.holder n ≡ b → cond {A = List Record} b (record { key = h.key; counts = counts } ∷ []) [] ≡ []
  by true e = absurd (ne (sym (eqb-true h.holder n e)))
  by false e = refl

pub one_here : (counts : Counts) (h : Holding) → one_at counts h h.holder ≡ record { key = h.key; counts = counts } ∷ []
one_here counts h = ap (λ (b : Bool). cond b (record { key = h.key; counts = counts } ∷ []) [])
    (eq-eqb h.holder h.holder refl)

-- the stores and what is held once one was taken in
stands_then : (counts : Counts) (h : Holding) (waiting : ℕ → List Record) (stores : List (Option Stored))
    (held : List (List Record)) (s : Option Stored) (new : List Record)
    → Stand (λ n. Holds (waiting n)) stores held → slice_get stores h.holder ≡ Some s
    → Holds (waiting h.holder ++ record { key = h.key; counts = counts } ∷ [])
    (option_map (λ s. with_counts s h.key counts) s) new
    → Stand (λ n. Holds (waiting n ++ one_at counts h n)) (after_one counts h stores) (slice_set held h.holder new)
stands_then counts h waiting stores held s new st at then_is =
    let f = option_map (λ (s : Stored). with_counts s h.key counts) in
    let Q : ℕ → Option Stored → List Record → Type 0 = λ n. Holds (waiting n ++ one_at counts h n) in
    let here : Q h.holder (f s) new = subst (λ (rs : List Record). Holds (waiting h.holder ++ rs) (f s) new)
    (sym (one_here counts h)) then_is in
    let other : (m : ℕ) (t : Option Stored) (ts : List Record) → (m ≡ h.holder → ⊥) → Holds (waiting m) t ts
    → Q m t ts = λ m t ts ne q.
    subst (λ (rs : List Record). Holds rs t ts)
    (sym (append-nil (waiting m)) ∙ ap (λ (rs : List Record). waiting m ++ rs) (sym (one_other counts h m ne))) q in
    subst (λ (ss : List (Option Stored)). Stand Q ss (slice_set held h.holder new))
    (sym (changed_is f stores h.holder s at))
    (stand_set (λ n. Holds (waiting n)) Q stores held h.holder (f s) new st here other)

-- a holder takes a record in
held_with_is : (room held : List (List Record)) (counts : Counts) (h : Holding) (choice : Option ℕ)
    (ready new : List Record) → slice_get room h.holder ≡ Some ready
    → taken_in ready choice (record { key = h.key; counts = counts }) ≡ Some new → slice_set room h.holder new ≡ held
    → held_with room counts h choice ≡ Some held
held_with_is room held counts h choice ready new at taken now =
    ap (λ (o : Option (List Record)). take_in_at o room h.holder (record { key = h.key; counts = counts }) choice) at
    ∙ ap (put_in room h.holder) taken ∙ ap (λ (rss : List (List Record)). Some rss) now

hold_more : (room held now : List (List Record)) (counts : Counts) (h : Holding) (hs : List Holding) (choice : Option ℕ)
    (choices : Choices) → held_with room counts h choice ≡ Some held → hold_all counts hs held choices ≡ Some now
    → hold_all counts (h ∷ hs) room (choice ∷ choices) ≡ Some now
hold_more room held now counts h hs choice choices first rest =
    ap (option_and_then (λ (rss : List (List Record)). hold_all counts hs rss choices)) first ∙ rest

pub changed_length : (f : Option Stored → Option Stored) (stores : List (Option Stored)) (n : ℕ)
    → length (with_changed f stores n) ≡ length stores
changed_length f [] n = refl
changed_length f (s ∷ stores) zero = refl
changed_length f (s ∷ stores) (suc n) = ap suc (changed_length f stores n)

pub takes_in : (counts : Counts) (hs : List Holding) (waiting : ℕ → List Record) (stores : List (Option Stored))
    (held : List (List Record)) → AreThere (length stores) hs → AreApart counts hs stores
    → Stand (λ n. Holds (waiting n)) stores held
    → Takes waiting stores counts hs held (stores_and_leavers stores counts hs)
takes_in counts [] waiting stores held there apart st = record {
  room = held;
  now = held;
  choices = [];
  leave = refl;
  taken = refl;
  stands = stand_map (λ n. Holds (waiting n)) (λ n. Holds (waiting n ++ [])) stores held st
      (λ n s rs q. subst (λ (ts : List Record). Holds ts s rs) (sym (append-nil (waiting n))) q);
}
takes_in counts (h ∷ hs) waiting stores held there apart st =
    let n : ℕ = h.holder in
    let at = standing (λ n. Holds (waiting n)) stores held n st there.0 in
    let one = comes_in n h.key counts (waiting n) at.s at.rs at.fact in
    let stores2 : List (Option Stored) = after_one counts h stores in
    let held1 : List (List Record) = slice_set held n one.ready in
    let waiting2 : ℕ → List Record = λ m. waiting m ++ one_at counts h m in
    let st2 = stands_then counts h waiting stores held at.s one.new st at.store_is one.then_is in
    let st3 : Stand (λ m. Holds (waiting2 m)) stores2 (slice_set held1 n one.new) =
    subst (λ (rss : List (List Record)). Stand (λ m. Holds (waiting2 m)) stores2 rss)
    (sym (set_twice held n one.ready one.new)) st2 in
    let there2 : AreThere (length stores2) hs =
    subst (λ (k : ℕ). AreThere k hs) (sym (changed_length _ stores n)) there.1 in
    let rest = takes_in counts hs waiting2 stores2 (slice_set held1 n one.new) there2 apart.1 st3 in
    let before = leave_before n one.new (stores_and_leavers stores2 counts hs).left held1 rest.room apart.0 rest.leave
    in
    let ready_there : slice_get before.room n ≡ Some one.ready = before.same
    ∙ at_set held n at.rs one.ready at.records_are in
    let stored_is : at.s ≡ stored_at stores n = sym (ap inner_option at.store_is) in
    let out : AllLeave (out_by counts h stores) held held1 =
    subst (λ (s : Option Stored). AllLeave (left_by n (option_and_then (λ s. makes_room s h.key counts) s)) held
    held1) stored_is (one.leaves held at.records_are) in
    let both : AllLeave (out_by counts h stores ++ (stores_and_leavers stores2 counts hs).left) held before.room =
    leave_join (out_by counts h stores) (stores_and_leavers stores2 counts hs).left held held1 before.room out
    before.leave in
    record {
      room = before.room;
      now = rest.now;
      choices = one.choice ∷ rest.choices;
      leave = subst (λ (ls : List Leaver). AllLeave ls held before.room) (sym (left_then counts h hs stores)) both;
      taken = hold_more before.room rest.room rest.now counts h hs one.choice rest.choices
          (held_with_is before.room rest.room counts h one.choice one.ready one.new ready_there one.taken before.now_is)
          rest.taken;
      stands = subst (λ (ss : List (Option Stored)). Stand (λ m. Holds (waiting m ++ waiting_at counts (h ∷ hs) m)) ss
          rest.now) (sym (stores_then counts h hs stores))
          (stand_map (λ m. Holds (waiting2 m ++ waiting_at counts hs m))
          (λ m. Holds (waiting m ++ waiting_at counts (h ∷ hs) m)) (stores_and_leavers stores2 counts hs).stores
          rest.now rest.stands
          (λ m s rs q. subst (λ (ts : List Record). Holds ts s rs)
          (append_assoc (waiting m) (one_at counts h m) (waiting_at counts hs m)) q));
    }
