-- Records that arrive at a collecting process: each is tallied, sent on and taken in, in one step.
use Rattle.std.proofs.Common.{◌≡◌, ℕ, suc, ◌+◌, ◌%◌, ◌^◌, ◌<◌, ◌==◌, Bool, true, false, cond, List, [], ◌∷◌, ◌++◌, length, slice_get, slice_set, refl, ap, sym, ◌∙◌, subst, arith, Option, Some, Ok}
use Rattle.std.specs.List.{AllByRecursion}
use Rattle.std.specs.Prelude.{IfSome}
use Rattle.fx_layout.specs.Keys.{Key, Layout, refines, project}
use Rattle.fx_tables.specs.declared.holding.Holding.{Holding}
use Rattle.fx_tables.specs.declared.packet.Packet.{Packet}
use Rattle.fx_tables.specs.declared.record.Record.{Record}
use Rattle.fx_run_text.specs.declared.step.Step.{Step}
use Rattle.fx_run_text.specs.declared.step.Step.TheVariants.{Arrive}
use Rattle.fx_tables.specs.Network.{Net, Holder, AggregationEntry, Process, aggregations_of, layout_of, process_at, takes_with}
use Rattle.fx_tables.specs.Classes.{Class}
use Rattle.fx_machine.specs.Acts.{Choices}
use Rattle.fx_tables.specs.Takers.{intakes}
use Rattle.fx_tables.specs.Runnable.{IsHolder, HasAggregations, IsRunnable}
use Rattle.fx_machine.specs.Sends.{put_all}
use Rattle.fx_machine.specs.States.{State, add_at, after_tally, wrapped_state}
use Rattle.fx_machine.specs.Steps.{after}
use Rattle.fx_collect.specs.Totals.{Totals, with_record, totals_in}
use Rattle.fx_link.specs.Sending.{IsSent}
use Rattle.fx_runs.specs.Destinations.{links_used, sent_by}
use Rattle.fx_runs.specs.Given.{records_given}
use Rattle.fx_runs.specs.Making.{tallied_at}
use Rattle.fx_runs.proofs.RecordsGiven.{arrive_puts}
use Rattle.fx_runs.proofs.StepsThatCanBeMade.{arrives_are_made}
use Rattle.fx_net.specs.Contents.{Contents, stored_at}
use Rattle.fx_net.specs.Stores.{Stored}
use Rattle.fx_net.specs.Arriving.{exporters_named, process_behind, leads_to_report, after_arrive, after_arrivals}
use Rattle.fx_net.specs.Exporting.{put_each, after_send}
use Rattle.fx_net.specs.Leaving.{after_leaves}
use Rattle.fx_net.specs.Taking.{stores_and_leavers, all_leave_at_once, with_stores, after_taking}
use Rattle.fx_conform.specs.Held.{Leaver}
use Rattle.fx_conform.specs.TakingIn.{IsUnbounded, AreUnbounded, Join}
use Rattle.fx_conform.specs.OnLinks.{none_pending, pending_from}
use Rattle.fx_conform.specs.Closing.{CanBeNamed}
use Rattle.fx_conform.specs.Conforming.{IsSound, StoresConform, put_by_run}
use Rattle.fx_conform.specs.Rows.{Arrives, Repeated}
use Rattle.fx_conform.proofs.ImmediateCaches.{as_many}
use Rattle.fx_conform.proofs.Takers.{takers_join}
use Rattle.fx_conform.proofs.LinkLaws.{arrived_leaves, none_is_left, puts_carry}
use Rattle.fx_conform.proofs.CanBeSent.{aggregated_can_be_sent, taken_can_be_sent}
use Rattle.fx_conform.proofs.ClosingNamed.{taking_stays_named}
use Rattle.fx_conform.proofs.DestinationsStay.{arrive_chosen}
use Rattle.fx_conform.proofs.NetworkMidway.{IsAmid, run_one, links_then, all_length, set_length, there_is_below}
use Rattle.fx_conform.proofs.PacketsCross.{Then, all_at, all_to_list, boundless_then}

-- ---- what is tallied

one_modulo : (n : ℕ) → (n % 2 ^ 64 + 1) % 2 ^ 64 ≡ (n + 1) % 2 ^ 64
one_modulo n = omega arith

with_tallied : (net : Net) (r : Record) (s : State) → with_record (totals_in net.report_layout (wrapped_state s)) r
    ≡ totals_in net.report_layout (wrapped_state (after_tally net r.key r.counts s))
with_tallied net r s = by (refines r.key.layout net.report_layout) where
  L : Layout
  L = net.report_layout

  by : (b : Bool)
      → cond b (let t : Totals = record {
        layout = L;
        entries = add_at s.totals (project r.key L) r.counts;
        unassigned =
            s.unassigned % 2 ^ 64;
      } in t)
      (record { layout = L; entries = s.totals; unassigned = (s.unassigned % 2 ^ 64 + 1) % 2 ^ 64 })
      ≡ totals_in L (wrapped_state (cond b (let t : State =
      record s { totals = add_at s.totals (project r.key L) r.counts } in t)
      (record s { unassigned = s.unassigned + 1 })))
  by true = refl
  by false = ap (λ (n : ℕ). let t : Totals = record { layout = L; entries = s.totals; unassigned = n } in t)
      (one_modulo s.unassigned)

-- nothing else of the state is tallied
tallied_held : (net : Net) (key : Key) (r : Record) (s : State) → (after_tally net key r.counts s).held ≡ s.held
tallied_held net key r s = by (refines key.layout net.report_layout) where
  by : (b : Bool) → (cond b (let t : State =
      record s { totals = add_at s.totals (project key net.report_layout) r.counts } in t)
      (record s { unassigned = s.unassigned + 1 })).held ≡ s.held
  by true = refl
  by false = refl

tallied_coming : (net : Net) (key : Key) (r : Record) (s : State) → (after_tally net key r.counts s).coming ≡ s.coming
tallied_coming net key r s = by (refines key.layout net.report_layout) where
  by : (b : Bool) → (cond b (let t : State =
      record s { totals = add_at s.totals (project key net.report_layout) r.counts } in t)
      (record s { unassigned = s.unassigned + 1 })).coming ≡ s.coming
  by true = refl
  by false = refl

-- at the report it is tallied in both
tallies : (net : Net) (to : ℕ) (r : Record) (s : State) (totals : Totals) → totals
    ≡ totals_in net.report_layout (wrapped_state s)
    → cond (to == net.report) (with_record totals r) totals
    ≡ totals_in net.report_layout (wrapped_state (tallied_at net to r s))
tallies net to r s totals e = by (to == net.report) where
  by : (b : Bool) → cond b (with_record totals r) totals
      ≡ totals_in net.report_layout (wrapped_state (cond b (after_tally net r.key r.counts s) s))
  by true = ap (λ (t : Totals). with_record t r) e ∙ with_tallied net r s
  by false = e

at_coming : (net : Net) (to : ℕ) (r : Record) (s : State) → (tallied_at net to r s).coming ≡ s.coming
at_coming net to r s = by (to == net.report) where
  by : (b : Bool) → (cond b (after_tally net r.key r.counts s) s).coming ≡ s.coming
  by true = tallied_coming net r.key r s
  by false = refl

tally_totals : (net : Net) (to : ℕ) (r : Record) (c : Contents)
    → (cond (to == net.report) (let d : Contents = record c { totals = with_record c.totals r } in d) c)
    ≡ record c { totals = cond (to == net.report) (with_record c.totals r) c.totals }
tally_totals net to r c = by (to == net.report) where
  by : (b : Bool) → (cond b (let d : Contents = record c { totals = with_record c.totals r } in d) c)
      ≡ record c { totals = cond b (with_record c.totals r) c.totals }
  by true = refl
  by false = refl

-- ---- the aggregations that take it in

one_taker : (holders : List Holder) (key : Key) (stores : List (Option Stored)) (a : AggregationEntry)
    (xs : List AggregationEntry) → IsUnbounded (stored_at stores a.holder)
    → AreUnbounded stores (intakes holders key xs)
    → AreUnbounded stores (intakes holders key (a ∷ xs))
one_taker holders key stores a xs own rest = by (takes_with holders key a) where
  one : Holding
  one = record { holder = a.holder; key = project key (layout_of (slice_get holders a.holder)) }

  by : (b : Bool) → AreUnbounded stores (cond b (one ∷ []) [] ++ intakes holders key xs)
  by true = (own, rest)
  by false = rest

takers_unbounded : (holders : List Holder) (key : Key) (stores : List (Option Stored)) (xs : List AggregationEntry)
    → AllByRecursion (λ (a : AggregationEntry). IsUnbounded (stored_at stores a.holder)) xs
    → AreUnbounded stores (intakes holders key xs)
takers_unbounded holders key stores [] h = tt
takers_unbounded holders key stores (a ∷ xs) h =
    one_taker holders key stores a xs h.0 (takers_unbounded holders key stores xs h.1)

one_named : (net : Net) (key : Key) (a : AggregationEntry) (xs : List AggregationEntry) → IsHolder net a.holder
    → AllByRecursion (λ (h : Holding). CanBeNamed net h.holder) (intakes net.holders key xs)
    → AllByRecursion (λ (h : Holding). CanBeNamed net h.holder) (intakes net.holders key (a ∷ xs))
one_named net key a xs own rest = by (takes_with net.holders key a) where
  one : Holding
  one = record { holder = a.holder; key = project key (layout_of (slice_get net.holders a.holder)) }

  by : (b : Bool) → AllByRecursion (λ (h : Holding). CanBeNamed net h.holder)
      (cond b (one ∷ []) [] ++ intakes net.holders key xs)
  by true = ((own.name, own.named), rest)
  by false = rest

takers_named : (net : Net) (key : Key) (xs : List AggregationEntry)
    → AllByRecursion (λ (a : AggregationEntry). IsHolder net a.holder) xs
    → AllByRecursion (λ (h : Holding). CanBeNamed net h.holder) (intakes net.holders key xs)
takers_named net key [] h = tt
takers_named net key (a ∷ xs) h = one_named net key a xs h.0 (takers_named net key xs h.1)

-- a process's aggregations hold what they take in
pub aggregations_held : (net : Net) → IsRunnable net → (to : ℕ) (process : Process) → slice_get net.processes to
    ≡ Some process → AllByRecursion (λ (a : AggregationEntry). IsHolder net a.holder) process.aggregations
aggregations_held net runnable to process is =
    all_to_list (λ (a : AggregationEntry). IsHolder net a.holder) process.aggregations
    (subst (λ (o : Option Process). IfSome o (HasAggregations net)) is
    (all_at (HasAggregations net) net.processes to
    (all_to_list (HasAggregations net) net.processes runnable.aggregations)))

module _ (net : Net) (sound : IsSound net) (classes : List Class) (packets : List Packet)
    (history : ℕ → List ℕ) (link to : ℕ) (process : Process)
    (leads : slice_get net.links link ≡ Some to) (is_there : slice_get net.processes to ≡ Some process) where
  behind : process_behind net link ≡ Some process
  behind = ap (process_at net.processes) leads ∙ is_there

  abbrev takers_of : Record → List Holding
  takers_of r = intakes net.holders r.key process.aggregations

  abbrev links_to : Contents → List ℕ
  links_to c = links_used net c.chosen process.exporters

  -- what a record leads to, where nothing has to make room for it
  abbrev with_arrived : Record → Contents → Contents
  with_arrived r c = record c {
    stores = (stores_and_leavers c.stores r.counts (takers_of r)).stores;
    links = put_each c.second r (links_to c) c.links;
    totals = cond (to == net.report) (with_record c.totals r) c.totals;
  }

  arrives_so : (r : Record) (c : Contents) → (stores_and_leavers c.stores r.counts (takers_of r)).left ≡ []
      → all_leave_at_once (stores_and_leavers c.stores r.counts (takers_of r)).stores r.counts (takers_of r) ≡ []
      → after_arrive net link r c ≡ with_arrived r c
  arrives_so r c none once =
      let hs : List Holding = takers_of r in
      let sends : Contents → Contents = λ d. after_send net process.exporters r d in
      let goes : Option ℕ → Option Process → Contents =
      λ l o. after_taking net r.counts (intakes net.holders r.key (aggregations_of o))
      (after_send net (exporters_named o) r (cond (leads_to_report net l)
      (let d : Contents = record c { totals = with_record c.totals r } in d) c)) in
      let counted : Contents = sends (record c { totals = cond (to == net.report) (with_record c.totals r) c.totals })
      in
      let stores : List (Option Stored) = (stores_and_leavers c.stores r.counts hs).stores in
      ap (λ l. goes l (process_behind net link)) leads ∙ ap (goes (Some to)) behind
      ∙ ap (λ (d : Contents). after_taking net r.counts hs (sends d)) (tally_totals net to r c)
      ∙ ap (λ (ls : List Leaver). after_leaves net (all_leave_at_once stores r.counts hs)
      (after_leaves net ls (with_stores counted stores))) none
      ∙ ap (λ (ls : List Leaver). after_leaves net ls (with_stores counted stores)) once

  arrives_one : (r : Record) (rest : List Record) (c : Contents) (steps : List Step) (s : State)
      → IsAmid net classes packets c (pending_from link (r ∷ rest)) history [] steps s
      → StoresConform net c.stores s.held
      → Then net classes packets (Arrives net c.chosen link) (after_arrive net link r c) (pending_from link rest)
      history [] steps
  arrives_one r rest c steps s a st =
      let below : link < length c.links = omega (
        arith,
        there_is_below net.links link to leads,
        a.as_many,
        a.links.as_many,
      ) in
      let h = arrived_leaves c.second link r rest history (put_by_run net classes packets steps) c.links s.carried below
      a.links in
      let rs : List Record = h.0 in
      let sent : IsSent r = h.2 in
      let hs : List Holding = takers_of r in
      let own : AllByRecursion (λ (x : AggregationEntry). IsUnbounded (stored_at c.stores x.holder))
      process.aggregations =
      subst (λ (o : Option Process). AllByRecursion
      (λ (x : AggregationEntry). IsUnbounded (stored_at c.stores x.holder)) (aggregations_of o)) is_there
      (st.boundless to) in
      let join : Join c.stores r.counts hs s.held =
      takers_join c.stores s.held r.counts hs st.held st.usable
      (takers_unbounded net.holders r.key c.stores process.aggregations own) in
      let links : List ℕ = links_to c in
      let choices : Choices = sent_by net c.chosen process.exporters ++ join.choices in
      let step : Step = Arrive (suc link) 1 choices in
      let left : State = record s { carried = slice_set s.carried link rs } in
      let t : State = record (tallied_at net to r left)
      { held = join.now; carried = put_all links r (slice_set s.carried link rs) } in
      let made : after net classes packets step s ≡ Ok t =
      arrives_are_made net classes packets c.chosen s link to process r rs join.choices join.now a.chosen h.1 leads
      is_there join.taken_in in
      let long : length t.carried ≡ length s.carried = all_length links r (slice_set s.carried link rs)
      ∙ set_length s.carried link rs in
      let right = aggregated_can_be_sent net.holders r.key process.aggregations sound.layouts
      (record { layout = sent.0; bits = sent.1.bits }) in
      subst (λ (d : Contents). Then net classes packets (Arrives net c.chosen link) d (pending_from link rest) history
      [] steps) (sym (arrives_so r c join.none_left join.none_at_once)) (record {
        to = steps ++ step ∷ [];
        state = t;
        shaped = record { process = process; process_is = behind; joined = join.choices; to_is = refl };
        amid = record {
          run_is = run_one net classes packets steps step s t a.run_is made;
          coming_is = at_coming net to r left ∙ a.coming_is;
          as_many = long ∙ a.as_many;
          links = links_then net classes packets c.second (pending_from link rest) history (records_given links r) _
              steps step s t a.run_is made
              (λ l lt. arrive_puts link choices s t links r rs l h.1 refl (subst (λ (n : ℕ). l < n) long lt))
              (puts_carry c.second (pending_from link rest) history (put_by_run net classes packets steps) c.links
              (slice_set s.carried link rs) r links h.3 sent);
          chosen = a.chosen;
          totals = tallies net to r left c.totals a.totals;
          second = a.second;
        };
        stores = record {
          as_many = as_many r.counts hs (record { stores = c.stores; left = [] }) ∙ st.as_many;
          held = join.held_then;
          usable = join.usable_then;
          boundless = boundless_then net r.counts hs c.stores st.boundless;
          named = taking_stays_named net c.stores r.counts hs st.named
              (takers_named net r.key process.aggregations (aggregations_held net sound.runnable to process is_there));
          sent = taken_can_be_sent r.counts hs s.held join.choices join.now
              (record { packets = sent.1.packets; octets = sent.1.octets }) right st.sent join.taken_in;
        };
      })

  pub arrive_all : (rs : List Record) (c : Contents) (steps : List Step) (s : State)
      → IsAmid net classes packets c (pending_from link rs) history [] steps s → StoresConform net c.stores s.held
      → Then net classes packets (Repeated (Arrives net c.chosen link)) (after_arrivals net link rs c) none_pending
      history [] steps
  arrive_all [] c steps s a st = record {
    to = steps;
    state = s;
    shaped = (0, refl);
    amid = record {
      run_is = a.run_is;
      coming_is = a.coming_is;
      as_many = a.as_many;
      links = none_is_left c.second link history (put_by_run net classes packets steps) c.links s.carried a.links;
      chosen = a.chosen;
      totals = a.totals;
      second = a.second;
    };
    stores = st;
  }
  arrive_all (r ∷ rs) c steps s a st =
      let first = arrives_one r rs c steps s a st in
      let then = arrive_all rs (after_arrive net link r c) first.to first.state first.amid first.stores in
      let others : Repeated (Arrives net c.chosen link) first.to then.to =
      subst (λ (chosen : List ℕ). Repeated (Arrives net chosen link) first.to then.to) (arrive_chosen net link r c)
      then.shaped in
      record {
        to = then.to;
        state = then.state;
        shaped = (suc others.0, (first.to, first.shaped, others.1));
        amid = then.amid;
        stores = then.stores;
      }
