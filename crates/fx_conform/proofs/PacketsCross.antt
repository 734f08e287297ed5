-- A packet that crosses an interface: what makes room leaves, holders take it in, and the records of immediate caches
-- leave.
use Rattle.std.proofs.Common.{◌≡◌, ℕ, zero, suc, ◌+◌, ◌^◌, ◌<◌, Bool, true, false, cond, List, [], ◌∷◌, ◌++◌, length, slice_get, refl, ap, sym, ◌∙◌, subst, arith, append_assoc, Option, Some, None, All}
use Rattle.std.proofs.lemmas.List.Elements.{All-head, All-tail}
use Rattle.std.specs.Prelude.{IfSome}
use Rattle.std.specs.List.{AllByRecursion}
use Rattle.fx_base.specs.declared.counts.Counts.{Counts}
use Rattle.fx_elements.specs.Axes.{Fields}
use Rattle.fx_boxes.specs.Boxes.{IsFields}
use Rattle.fx_tables.specs.declared.holding.Holding.{Holding}
use Rattle.fx_tables.specs.declared.observation.Occurrence.{Occurrence}
use Rattle.fx_tables.specs.declared.observation.Selection.{Selection}
use Rattle.fx_tables.specs.declared.packet.Packet.{Packet}
use Rattle.fx_tables.specs.declared.record.Record.{Record}
use Rattle.fx_run_text.specs.declared.step.Step.{Step}
use Rattle.fx_tables.specs.declared.traffic.Crossing.{Crossing}
use Rattle.fx_tables.specs.Network.{Net, Point, DeviceEntry, AggregationEntry, points_of, aggregations_of}
use Rattle.fx_base.specs.Entries.{entry_numbered}
use Rattle.fx_tables.specs.Classes.{Class, path}
use Rattle.fx_machine.specs.Holds.{hold_all}
use Rattle.fx_tables.specs.Holdings.{met_holdings}
use Rattle.fx_tables.specs.Occurrences.{occurrence, met_by, met_at, occurrences, selects, watches}
use Rattle.fx_tables.specs.Runnable.{IsHolder, HasCaches, IsRunnable}
use Rattle.fx_machine.specs.States.{State, Coming, crossings_from}
use Rattle.fx_machine.specs.Steps.{one_packet}
use Rattle.fx_store.specs.Flows.{Entry}
use Rattle.fx_runs.specs.Making.{intakes_at}
use Rattle.fx_net.specs.Contents.{Contents, stored_at, is_immediate}
use Rattle.fx_net.specs.Stores.{Stored}
use Rattle.fx_net.specs.Leaving.{leaver, after_leave, after_leaves}
use Rattle.fx_net.specs.Metering.{after_path}
use Rattle.fx_net.specs.Taking.{stores_and_leavers, left_by, leaves_at_once, all_leave_at_once, with_stores, after_adding, after_taking}
use Rattle.fx_conform.specs.Held.{Leaver, AllLeave}
use Rattle.fx_conform.specs.TakingIn.{AreThere, TakesIn, IsUnbounded, packet_key}
use Rattle.fx_conform.specs.Sendable.{AreSent}
use Rattle.fx_conform.specs.Closing.{CanBeNamed}
use Rattle.fx_conform.specs.Conforming.{IsSound, AreBoundless, StoresConform}
use Rattle.fx_conform.specs.Rows.{AreCrossings, Expires, IsCrossing, Repeated, Row}
use Rattle.fx_conform.proofs.ImmediateCaches.{as_many, taking_in, met_have_keys}
use Rattle.fx_conform.proofs.CanBeSent.{leavings_can_be_sent, met_can_be_sent, taken_can_be_sent}
use Rattle.fx_conform.proofs.Takers.{stay_unbounded}
use Rattle.fx_conform.proofs.CountsTakenIn.{left_then}
use Rattle.fx_conform.proofs.ClosingNamed.{taking_stays_named}
use Rattle.fx_conform.proofs.DestinationsStay.{adding_chosen, taking_chosen}
use Rattle.fx_conform.proofs.NetworkMidway.{IsAmid, all_leave_so, crosses}

-- ---- what meters a packet can be named

pub all_to_list : {A : Type 0} (P : A → Type 0) (xs : List A) → All P xs → AllByRecursion P xs
all_to_list P [] h = tt
all_to_list P (x ∷ xs) h = (All-head P x xs h, all_to_list P xs (All-tail P x xs h))

pub all_join : {A : Type 0} (P : A → Type 0) (xs ys : List A) → AllByRecursion P xs → AllByRecursion P ys
    → AllByRecursion P (xs ++ ys)
all_join P [] ys a b = b
all_join P (x ∷ xs) ys a b = (a.0, all_join P xs ys a.1 b)

-- an entry that is there is one of all
pub all_at : {A : Type 0} (P : A → Type 0) (xs : List A) (n : ℕ) → AllByRecursion P xs → IfSome (slice_get xs n) P
all_at P [] n h = tt
all_at P (x ∷ xs) zero h = h.0
all_at P (x ∷ xs) (suc n) h = all_at P xs n h.1

module _ (net : Net) where
  abbrev MetBy : Occurrence → Type 0
  MetBy o = IsHolder net o.holder

  occurrence_met : (point process : ℕ) (o : Option ℕ) → IfSome o (IsHolder net)
      → AllByRecursion MetBy (occurrence point process o)
  occurrence_met point process None h = tt
  occurrence_met point process (Some holder) h = (h, tt)

  selections_met : (point process : ℕ) (ss : List Selection) (fields : Fields)
      → AllByRecursion (λ (s : Selection). IfSome s.holder (IsHolder net)) ss
      → AllByRecursion MetBy (met_by point process ss fields)
  selections_met point process [] fields h = tt
  selections_met point process (s ∷ ss) fields h =
      let here = elim (selects s.region fields)
      as (λ b. AllByRecursion MetBy (cond b (occurrence point process s.holder) []))
      [ true ↦ occurrence_met point process s.holder h.0 | false ↦ tt ] in
      all_join MetBy _ _ here (selections_met point (process + 1) ss fields h.1)

  points_met : (n : ℕ) (points : List Point) (crossing : Crossing) (fields : Fields)
      → All (λ (p : Point). All (λ (s : Selection). IfSome s.holder (IsHolder net)) p.selections) points
      → AllByRecursion MetBy (met_at n points crossing fields)
  points_met n [] crossing fields h = tt
  points_met n (point ∷ points) crossing fields h =
      let P : Point → Type 0 = λ (p : Point). All (λ (s : Selection). IfSome s.holder (IsHolder net)) p.selections in
      let selections = all_to_list (λ (s : Selection). IfSome s.holder (IsHolder net)) point.selections
      (All-head P point points h) in
      let here = elim (watches point crossing)
      as (λ b. AllByRecursion MetBy (cond b (met_by n 1 point.selections fields) []))
      [ true ↦ selections_met n 1 point.selections fields selections | false ↦ tt ] in
      all_join MetBy _ _ here (points_met (n + 1) points crossing fields (All-tail P point points h))

  device_met : (o : Option DeviceEntry) (crossing : Crossing) (fields : Fields) → IfSome o (HasCaches net)
      → AllByRecursion MetBy (met_at 1 (points_of o) crossing fields)
  device_met None crossing fields h = tt
  device_met (Some device) crossing fields h = points_met 1 device.points crossing fields h

  number_has : (n : ℕ) → AllByRecursion (HasCaches net) net.devices
      → IfSome (entry_numbered net.devices n) (HasCaches net)
  number_has zero h = tt
  number_has (suc n) h = all_at (HasCaches net) net.devices n h

  holdings_met : (fields : Fields) (os : List Occurrence) → AllByRecursion MetBy os
      → AllByRecursion (λ (h : Holding). IsHolder net h.holder) (met_holdings net.holders fields os)
  holdings_met fields [] h = tt
  holdings_met fields (o ∷ os) h = (h.0, holdings_met fields os h.1)

  pub metered_by : (fields : Fields) (crossing : Crossing) → IsRunnable net
      → AllByRecursion (λ (h : Holding). IsHolder net h.holder) (intakes_at net fields crossing)
  metered_by fields crossing runnable =
      holdings_met fields (occurrences net crossing fields)
      (device_met (entry_numbered net.devices crossing.device) crossing fields
      (number_has crossing.device (all_to_list (HasCaches net) net.devices runnable.caches)))

  pub all_named : (hs : List Holding) → AllByRecursion (λ (h : Holding). IsHolder net h.holder) hs
      → AllByRecursion (λ (h : Holding). CanBeNamed net h.holder) hs
  all_named [] h = tt
  all_named (x ∷ hs) h = ((h.0.name, h.0.named), all_named hs h.1)

  -- ---- what leaves then can be named

  pub are_there : (n : ℕ) (hs : List Holding) → length net.holders ≡ n
      → AllByRecursion (λ (h : Holding). IsHolder net h.holder) hs → AreThere n hs
  are_there n [] e h = tt
  are_there n (x ∷ hs) e h = (subst (λ (k : ℕ). x.holder < k) e h.0.there, are_there n hs e h.1)

  abbrev AllNamed : List Leaver → Type 0
  AllNamed ls = AllByRecursion (λ (l : Leaver). CanBeNamed net l.holder) ls

  pub left_named : (holder : ℕ) (o : Option Entry) → CanBeNamed net holder → AllNamed (left_by holder o)
  left_named holder None h = tt
  left_named holder (Some e) h = (h, tt)

  adding_named : (counts : Counts) (hs : List Holding) (stores : List (Option Stored))
      → AllByRecursion (λ (h : Holding). IsHolder net h.holder) hs → AllNamed (stores_and_leavers stores counts hs).left
  adding_named counts [] stores h = tt
  adding_named counts (x ∷ hs) stores h =
      subst AllNamed (sym (left_then counts x hs stores))
      (all_join (λ (l : Leaver). CanBeNamed net l.holder) _ _ (left_named x.holder _ (h.0.name, h.0.named))
      (adding_named counts hs _ h.1))

  at_once_named : (counts : Counts) (stores : List (Option Stored)) (hs : List Holding)
      → AllByRecursion (λ (h : Holding). IsHolder net h.holder) hs → AllNamed (all_leave_at_once stores counts hs)
  at_once_named counts stores [] h = tt
  at_once_named counts stores (x ∷ hs) h =
      all_join (λ (l : Leaver). CanBeNamed net l.holder) (leaves_at_once stores counts x) _
      (by (is_immediate (stored_at stores x.holder))) (at_once_named counts stores hs h.1) where
        by : (b : Bool) → AllNamed (cond b (leaver x.holder (x.key, counts) ∷ []) [])
        by true = ((h.0.name, h.0.named), tt)
        by false = tt

  -- ---- sending leaves the stores as they are

  pub stores_stay : (ls : List Leaver) (c : Contents) → (after_leaves net ls c).stores ≡ c.stores
  stores_stay [] c = refl
  stores_stay (l ∷ ls) c = stores_stay ls (after_leave net l c)

  pub boundless_then : (counts : Counts) (hs : List Holding) (stores : List (Option Stored)) → AreBoundless net stores
      → AreBoundless net (stores_and_leavers stores counts hs).stores
  boundless_then counts hs stores h process = each (aggregations_of (slice_get net.processes process)) (h process) where
    each : (xs : List AggregationEntry) → AllByRecursion
        (λ (a : AggregationEntry). IsUnbounded (stored_at stores a.holder)) xs
        → AllByRecursion (λ (a : AggregationEntry). IsUnbounded
        (stored_at (stores_and_leavers stores counts hs).stores a.holder)) xs
    each [] g = tt
    each (a ∷ xs) g = (stay_unbounded counts hs stores a.holder g.0, each xs g.1)

  -- ---- a crossing

  -- what follows, and what the stores are then
  pub record Then (classes : List Class) (packets : List Packet) (row : Row) (c : Contents) (pending : ℕ → List Record)
      (history : ℕ → List ℕ) (coming : List Coming) (steps : List Step) : Type 0 where
    pub to : List Step
    pub state : State
    pub shaped : row steps to
    pub amid : IsAmid net classes packets c pending history coming to state
    pub stores : StoresConform net c.stores state.held

  module _ (sound : IsSound net) (classes : List Class) (packets : List Packet)
      (pending : ℕ → List Record) (history : ℕ → List ℕ) (i : ℕ) (p : Packet) (fields_are : IsFields p.fields)
      (few : p.octets < 2 ^ 64) (packet_is : entry_numbered packets i ≡ Some p) where
    crossed : (j : ℕ) (crossing : Crossing) (rest : List Coming) (c : Contents) (steps : List Step) (s : State)
        → entry_numbered (path classes p) j ≡ Some crossing
        → IsAmid net classes packets c pending history (record { packet = i; crossing = j } ∷ rest) steps s
        → StoresConform net c.stores s.held
        → Then classes packets (IsCrossing net c.chosen i j)
        (after_taking net (one_packet p) (intakes_at net p.fields crossing) c) pending history rest steps
    crossed j crossing rest c steps s on a st =
        let hs : List Holding = intakes_at net p.fields crossing in
        let counts : Counts = one_packet p in
        let met = metered_by p.fields crossing sound.runnable in
        let takes : TakesIn c.stores counts hs s.held =
        taking_in c.stores s.held counts (packet_key net.holders p.fields) hs st.held st.usable
        (are_there (length c.stores) hs (sym st.as_many) met)
        (met_have_keys net.holders p.fields (occurrences net crossing p.fields)) in
        let kept : Contents = with_stores c (stores_and_leavers c.stores counts hs).stores in
        let coming : List Coming = record { packet = i; crossing = j } ∷ rest in
        let amid : IsAmid net classes packets kept pending history coming steps s =
        record {
          run_is = a.run_is;
          coming_is = a.coming_is;
          as_many = a.as_many;
          links = a.links;
          chosen =
              a.chosen;
          totals = a.totals;
          second = a.second;
        } in
        let room = all_leave_so net classes packets pending history coming (stores_and_leavers c.stores counts hs).left
        kept steps s s.held takes.room (adding_named counts hs c.stores met) amid refl st.sent takes.makes_room in
        let sent_then = all_sent (stores_and_leavers c.stores counts hs).left s.held takes.room takes.makes_room st.sent
        in
        let taken = crosses net classes packets pending history rest i j p crossing (after_adding net counts hs c)
        room.to room.state takes.choices takes.now packet_is on room.amid
        (ap (λ (h : List (List Record)). hold_all counts hs h takes.choices) room.held_is ∙ takes.taken_in) in
        let right = met_can_be_sent net.holders p.fields (occurrences net crossing p.fields) sound.layouts fields_are in
        let sent_now = taken_can_be_sent counts hs takes.room takes.choices takes.now
        (record { packets = omega arith; octets = few }) right sent_then takes.taken_in in
        let out = all_leave_so net classes packets pending history rest
        (all_leave_at_once (stores_and_leavers c.stores counts hs).stores counts hs) (after_adding net counts hs c)
        taken.to taken.state takes.now takes.final
        (at_once_named counts (stores_and_leavers c.stores counts hs).stores hs met) taken.amid taken.held_is sent_now
        takes.at_once in
        let leave : Repeated (Expires net c.chosen) taken.to out.to =
        subst (λ (chosen : List ℕ). Repeated (Expires net chosen) taken.to out.to) (adding_chosen net counts hs c)
        out.shaped in
        let stores_are : (stores_and_leavers c.stores counts hs).stores ≡ (after_taking net counts hs c).stores =
        sym (stores_stay (all_leave_at_once (stores_and_leavers c.stores counts hs).stores counts hs)
        (after_adding net counts hs c) ∙ stores_stay (stores_and_leavers c.stores counts hs).left kept) in
        record {
          to = out.to;
          state = out.state;
          shaped = record {
            room = room.to;
            makes_room = room.shaped;
            choices = takes.choices;
            leave_at_once =
                subst (λ (ss : List Step). Repeated (Expires net c.chosen) ss out.to) taken.shaped leave;
          };
          amid = out.amid;
          stores = subst (λ (ss : List (Option Stored)). StoresConform net ss out.state.held) stores_are
              (subst (λ (h : List (List Record)). StoresConform net (stores_and_leavers c.stores counts hs).stores h)
              (sym out.held_is) (record {
                as_many = as_many counts hs (record { stores = c.stores; left = [] }) ∙ st.as_many;
                held = takes.held_then;
                usable = takes.usable_then;
                boundless = boundless_then counts hs c.stores st.boundless;
                named = taking_stays_named net c.stores counts hs st.named (all_named hs met);
                sent = all_sent (all_leave_at_once (stores_and_leavers c.stores counts hs).stores counts hs) takes.now
                    takes.final takes.at_once sent_now;
              }));
        } where
          all_sent : (ls : List Leaver) (held now : List (List Record)) → AllLeave ls held now → AreSent held
              → AreSent now
          all_sent [] held now e h = subst AreSent (sym e) h
          all_sent (l ∷ ls) held now e h = all_sent ls e.0 now e.2 (leavings_can_be_sent l held e.0 e.1 h).1

    -- ---- all crossings of a path, one after another

    at_length : {A : Type 0} (xs ys : List A) (y : A) → slice_get (xs ++ y ∷ ys) (length xs) ≡ Some y
    at_length [] ys y = refl
    at_length (x ∷ xs) ys y = at_length xs ys y

    pub crosses_path : (done rest : List Crossing) (c : Contents) (steps : List Step) (s : State) → path classes p
        ≡ done ++ rest
        → IsAmid net classes packets c pending history (crossings_from i (suc (length done)) rest) steps s
        → StoresConform net c.stores s.held
        → Then classes packets (AreCrossings net c.chosen i (suc (length done)) (length rest))
        (after_path net p.fields (one_packet p) rest c) pending history [] steps
    crosses_path done [] c steps s e a st = record { to = steps; state = s; shaped = refl; amid = a; stores = st }
    crosses_path done (crossing ∷ rest) c steps s e a st =
        let on : entry_numbered (path classes p) (suc (length done)) ≡ Some crossing =
        ap (λ (l : List Crossing). slice_get l (length done)) e ∙ at_length done rest crossing in
        let first = crossed (suc (length done)) crossing (crossings_from i (suc (suc (length done))) rest) c steps s on
        a st in
        let next : Contents = after_taking net (one_packet p) (intakes_at net p.fields crossing) c in
        let longer : suc (length (done ++ crossing ∷ [])) ≡ suc (suc (length done)) = ap suc (length_snoc done crossing)
        in
        let then = crosses_path (done ++ crossing ∷ []) rest next first.to first.state
        (e ∙ sym (append_assoc done (crossing ∷ []) rest))
        (subst (λ (n : ℕ). IsAmid net classes packets next pending history (crossings_from i n rest) first.to
        first.state) (sym longer) first.amid) first.stores in
        let others : AreCrossings net next.chosen i (suc (suc (length done))) (length rest) first.to then.to =
        subst (λ (n : ℕ). AreCrossings net next.chosen i n (length rest) first.to then.to) longer then.shaped in
        record {
          to = then.to;
          state = then.state;
          shaped = (
            first.to,
            first.shaped,
            subst (λ (chosen : List ℕ). AreCrossings net chosen i
                (suc (suc (length done))) (length rest) first.to then.to)
                (taking_chosen net (one_packet p) (intakes_at net p.fields crossing) c) others,
          );
          amid = then.amid;
          stores = then.stores;
        } where
          length_snoc : (xs : List Crossing) (x : Crossing) → length (xs ++ x ∷ []) ≡ suc (length xs)
          length_snoc [] x = refl
          length_snoc (y ∷ xs) x = ap suc (length_snoc xs x)
