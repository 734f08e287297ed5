-- What a line of a schedule asks for, and what the closing phase does, as steps.
use Rattle.std.proofs.Common.{◌≡◌, ◌≢◌, ℕ, zero, suc, ◌^◌, ◌<◌, List, [], ◌∷◌, ◌++◌, length, slice_get, refl, ap, sym, ◌∙◌, subst, arith, Option, Some, None, IsSome, ◌⊎◌, inl, inr}
use Rattle.std.specs.List.{AllByRecursion}
use Rattle.std.specs.Prelude.{option_map}
use Rattle.std.specs.Option.{unwrap_or}
use Rattle.std.proofs.lemmas.Bool.{cases_eq}
use Rattle.fx_tables.specs.declared.packet.Packet.{Packet}
use Rattle.fx_tables.specs.declared.holder_name.HolderName.{HolderName}
use Rattle.fx_run_text.specs.declared.step.Step.{Step}
use Rattle.fx_tables.specs.Network.{Net, Exporter, AggregationEntry, Process, holder_place, aggregations_of}
use Rattle.fx_base.specs.Entries.{entry_numbered}
use Rattle.fx_tables.specs.Classes.{Class, path}
use Rattle.fx_machine.specs.States.{State}
use Rattle.fx_link.specs.Links.{Put}
use Rattle.fx_pcap.specs.Captures.{Seen}
use Rattle.fx_store.specs.Flows.{Entry}
use Rattle.fx_boxes.specs.Boxes.{IsFields}
use Rattle.fx_elements.specs.Axes.{Fields}
use Rattle.fx_runs.specs.Extending.{with_packet}
use Rattle.fx_runs.specs.Destinations.{AllUsable, number_in_use}
use Rattle.fx_net.specs.Contents.{Contents, with_changed, stored_at}
use Rattle.fx_net.specs.Stores.{Stored, unbounded, bounded}
use Rattle.fx_net.specs.Arriving.{after_carrying}
use Rattle.fx_net.specs.Doings.{Empties, LeastLeaves, IsFrame, after_packet}
use Rattle.fx_net.specs.Leaving.{leaver, taken_out, least_of, least_at, without_least, count_at, after_leave, after_expire, after_least, after_leasts}
use Rattle.fx_net.specs.Taking.{with_stores}
use Rattle.fx_conform.specs.Held.{Leaver}
use Rattle.fx_conform.specs.TakingIn.{IsUnbounded}
use Rattle.fx_conform.specs.OnLinks.{none_pending, pending_from, arrivals, with_octets_carried}
use Rattle.fx_conform.specs.Closing.{CanBeNamed}
use Rattle.fx_conform.specs.Conforming.{IsSound, AreBoundless, Conforms, StoresConform, put_by_run}
use Rattle.fx_conform.specs.Rows.{AreCrossings, Arrives, IsEmptied, IsLeastHeld, LeastExpires, Repeated}
use Rattle.fx_conform.proofs.LinkLaws.{octets_arrive}
use Rattle.fx_conform.proofs.CanBeSent.{leavings_can_be_sent}
use Rattle.fx_conform.proofs.DestinationsStay.{least_chosen}
use Rattle.fx_conform.proofs.LeastLeaves.{least_leaves, none_below_least, none_out}
use Rattle.fx_conform.proofs.Places.{stored_here, stored_other}
use Rattle.fx_conform.proofs.CountsTakenIn.{changed_length}
use Rattle.fx_conform.proofs.ClosingNamed.{leaving_stays_named}
use Rattle.fx_conform.proofs.NetworkMidway.{IsAmid, one_leaves, there_is_below}
use Rattle.fx_conform.proofs.PacketsCross.{Then as Made, crosses_path}
use Rattle.fx_conform.proofs.RecordsArrive.{arrive_all}
use Rattle.fx_conform.proofs.CalmTimes.{amid_of, packet_comes, last_numbered}

-- ---- stores without bounds stay so

taken_stays : (e : Option Entry) (o : Option Stored) → IsUnbounded o → IsUnbounded (option_map (taken_out e) o)
taken_stays None None u = absurd u
taken_stays None (Some s) u = u
taken_stays (Some e) None u = absurd u
taken_stays (Some e) (Some (unbounded held)) u = tt
taken_stays (Some e) (Some (bounded recent)) u = absurd u

least_unbounded : (stores : List (Option Stored)) (place n : ℕ) → IsUnbounded (stored_at stores n)
    → IsUnbounded (stored_at (without_least stores place) n)
least_unbounded stores place n u = by (cases_eq n place) where
  e : Option Entry
  e = least_of (stored_at stores place)

  by : (n ≡ place) ⊎ (n ≡ place → ⊥) → IsUnbounded (stored_at (without_least stores place) n)
  by (inl is) = subst (λ (m : ℕ). IsUnbounded (stored_at (without_least stores place) m)) (sym is)
      (subst IsUnbounded (sym (stored_here (taken_out e) stores place))
      (taken_stays e (stored_at stores place) (subst (λ (m : ℕ). IsUnbounded (stored_at stores m)) is u)))
  by (inr ne) = subst IsUnbounded (sym (stored_other (option_map (taken_out e)) stores place n ne)) u

pub boundless_least : (net : Net) (stores : List (Option Stored)) (place : ℕ) → AreBoundless net stores
    → AreBoundless net (without_least stores place)
boundless_least net stores place h process = each (aggregations_of (slice_get net.processes process)) (h process) where
  each : (xs : List AggregationEntry) → AllByRecursion
      (λ (a : AggregationEntry). IsUnbounded (stored_at stores a.holder)) xs
      → AllByRecursion (λ (a : AggregationEntry). IsUnbounded (stored_at (without_least stores place) a.holder)) xs
  each [] g = tt
  each (a ∷ xs) g = (least_unbounded stores place a.holder g.0, each xs g.1)

-- ---- records leave a holder

module _ (net : Net) (sound : IsSound net) (classes : List Class) (begin : Put) (packets : List Packet) where
  -- the record of the least key leaves the holder of a name, in one step
  least_amid : (name : HolderName) (place : ℕ) → holder_place net name ≡ Some place
      → (history : ℕ → List ℕ) (entry : Entry) (c : Contents) (steps : List Step) (s : State)
      → IsAmid net classes packets c none_pending history [] steps s → StoresConform net c.stores s.held
      → least_at c place ≡ Some entry
      → Made net classes packets (LeastExpires net classes packets c.chosen name place) (after_least net place c)
      none_pending history [] steps
  least_amid name place named history entry c steps s a st is =
      let l : Leaver = leaver place entry in
      let stores : List (Option Stored) = without_least c.stores place in
      let left = least_leaves c.stores s.held place entry st.held st.usable is in
      let leave = left.1 in
      let then : StoresConform net stores left.0 = record {
        as_many = changed_length (option_map (taken_out (least_of (stored_at c.stores place)))) c.stores place
            ∙ st.as_many;
        held = left.2;
        usable = left.3;
        boundless = boundless_least net c.stores place st.boundless;
        named = leaving_stays_named net c.stores place 1 st.usable st.named;
        sent = (leavings_can_be_sent l s.held left.0 leave st.sent).1;
      } in
      let kept : Contents = with_stores c stores in
      let amid : IsAmid net classes packets kept none_pending history [] steps s =
      record {
        run_is = a.run_is;
        coming_is = a.coming_is;
        as_many = a.as_many;
        links = a.links;
        chosen =
            a.chosen;
        totals = a.totals;
        second = a.second;
      } in
      let out = one_leaves net classes packets none_pending history [] l kept steps s left.0 (name, named) amid st.sent
      leave in
      let held : IsLeastHeld s place leave.number = record {
        records = leave.rs;
        there = leave.there;
        least = l.flow;
        numbered = leave.flow_is;
        is_least = none_below_least c.stores s.held place entry leave.rs st.held is leave.there;
      } in
      let done_is : after_least net place c ≡ after_leave net l kept =
      ap (λ (o : Option Entry). after_expire net place o kept) is in
      subst (λ (d : Contents). Made net classes packets (LeastExpires net classes packets c.chosen name place) d
      none_pending history [] steps) (sym done_is) (record {
        to = out.to;
        state = out.state;
        shaped = record {
          named = named;
          state = s;
          run_is = a.run_is;
          number = leave.number;
          least = held;
          to_is =
              out.shaped;
        };
        amid = out.amid;
        stores = subst (StoresConform net stores) (sym out.held_is) then;
      })

  -- that of the least key leaves, if there is one, and then others
  least_then : (place n : ℕ) (named : CanBeNamed net place) (history : ℕ → List ℕ) (c : Contents) (steps : List Step)
      (s : State)
      → IsAmid net classes packets c none_pending history [] steps s → StoresConform net c.stores s.held
      → ((d : Contents) (from : List Step) (t : State) → IsAmid net classes packets d none_pending history [] from t
      → StoresConform net d.stores t.held
      → Made net classes packets (IsEmptied net classes packets d.chosen place) (after_leasts net place n d)
      none_pending history [] from)
      → Made net classes packets (IsEmptied net classes packets c.chosen place)
      (after_leasts net place n (after_least net place c)) none_pending history [] steps
  least_then place n named history c steps s a st others = by (least_at c place) refl where
    by : (o : Option Entry) → least_at c place ≡ o
        → Made net classes packets (IsEmptied net classes packets c.chosen place)
        (after_leasts net place n (after_least net place c)) none_pending history [] steps
    by None is =
        let same : after_least net place c ≡ c =
        ap (λ (o : Option Entry). after_expire net place o
        (record c { stores = with_changed (option_map (taken_out o)) c.stores place })) is
        ∙ ap (λ (ss : List (Option Stored)). record c { stores = ss }) (none_out c.stores place) in
        subst (λ (d : Contents). Made net classes packets (IsEmptied net classes packets c.chosen place)
        (after_leasts net place n d) none_pending history [] steps) (sym same) (others c steps s a st)
    by (Some entry) is =
        let first = least_amid named.0 place named.1 history entry c steps s a st is in
        let then = others (after_least net place c) first.to first.state first.amid first.stores in
        let rest : IsEmptied net classes packets c.chosen place first.to then.to =
        subst (λ (chosen : List ℕ). IsEmptied net classes packets chosen place first.to then.to)
        (least_chosen net place c) then.shaped in
        record {
          to = then.to;
          state = then.state;
          shaped =
              (suc rest.0, (first.to, (named.0, first.shaped), rest.1));
          amid = then.amid;
          stores = then.stores;
        }

  leasts_amid : (place : ℕ) (named : CanBeNamed net place) (history : ℕ → List ℕ) (n : ℕ) (c : Contents)
      (steps : List Step) (s : State)
      → IsAmid net classes packets c none_pending history [] steps s → StoresConform net c.stores s.held
      → Made net classes packets (IsEmptied net classes packets c.chosen place) (after_leasts net place n c)
      none_pending history [] steps
  leasts_amid place named history zero c steps s a st =
      record { to = steps; state = s; shaped = (0, refl); amid = a; stores = st }
  leasts_amid place named history (suc n) c steps s a st =
      least_then place n named history c steps s a st (λ d from t b sd. leasts_amid place named history n d from t b sd)

  -- a holder is emptied
  pub emptied : (place : ℕ) → CanBeNamed net place
      → (put : Put) (c done : Contents) (steps : List Step) (s : State)
      (h : Conforms net classes begin put c packets steps s)
      → Empties net place c done → Made net classes packets (IsEmptied net classes packets c.chosen place) done
      none_pending h.history [] steps
  emptied place named put c done steps s h e =
      subst (λ (d : Contents). Made net classes packets (IsEmptied net classes packets c.chosen place) d none_pending
      h.history [] steps) (sym e)
      (leasts_amid place named h.history (count_at c place) c steps s
      (amid_of net classes begin put c packets steps s h) h.stores)

  -- the record of the least key leaves, in a step that names the holder
  pub least_left : (name : HolderName) (put : Put) (c done : Contents) (steps : List Step) (s : State)
      (h : Conforms net classes begin put c packets steps s)
      → LeastLeaves net name c done → Made net classes packets
      (λ from to. (place : ℕ) × LeastExpires net classes packets c.chosen name place from to) done none_pending
      h.history [] steps
  least_left name put c done steps s h e = by (least_at c e.place) refl e.there where
    by : (o : Option Entry) → least_at c e.place ≡ o → IsSome o
        → Made net classes packets (λ from to. (place : ℕ)
        × LeastExpires net classes packets c.chosen name place from to) done none_pending h.history [] steps
    by None is there = absurd cc
    by (Some entry) is there =
        let one = least_amid name e.place e.named h.history entry c steps s
        (amid_of net classes begin put c packets steps s h) h.stores is in
        subst (λ (d : Contents). Made net classes packets
        (λ from to. (place : ℕ) × LeastExpires net classes packets c.chosen name place from to) d none_pending
        h.history [] steps) (sym e.done_is)
        (record {
          to = one.to;
          state = one.state;
          shaped = (e.place, one.shaped);
          amid = one.amid;
          stores =
              one.stores;
        })

  -- ---- octets are carried

  -- so many octets of the link at a place, which leads to a process
  pub carried_so : (link n to : ℕ) (process : Process) → slice_get net.links link ≡ Some to → slice_get net.processes to
      ≡ Some process
      → (put : Put) (c done : Contents) (steps : List Step) (s : State)
      (h : Conforms net classes begin put c packets steps s)
      → done ≡ after_carrying net link n c → Made net classes packets (Repeated (Arrives net c.chosen link)) done
      none_pending h.history [] steps
  carried_so link n to process leads there put c done steps s h e =
      let below : link < length c.links = omega (
        arith,
        there_is_below net.links link to leads,
        h.as_many,
        h.links.as_many,
      ) in
      let a = amid_of net classes begin put c packets steps s h in
      let on : Contents = record c { links = with_octets_carried link n c.links } in
      let amid : IsAmid net classes packets on (pending_from link (arrivals link n c.links)) h.history [] steps s =
      record {
        run_is = a.run_is;
        coming_is = a.coming_is;
        as_many = a.as_many;
        links = octets_arrive c.second link n h.history (put_by_run net classes packets steps) c.links s.carried below
            h.links;
        chosen = a.chosen;
        totals = a.totals;
        second = a.second;
      } in
      subst (λ (d : Contents). Made net classes packets (Repeated (Arrives net c.chosen link)) d none_pending h.history
      [] steps) (sym e)
      (arrive_all net sound classes packets h.history link to process leads there (arrivals link n c.links) on steps s
      amid h.stores)

-- ---- a packet is read

module _ (net : Net) (sound : IsSound net) (classes : List Class) (begin : Put) where
  pub packet_crosses : (packets : List Packet) (p : Packet) (frame : Seen) → IsFrame p frame → frame.second < 2 ^ 32
      → (put : Put) (c done : Contents) (steps : List Step) (s : State)
      (h : Conforms net classes begin put c packets steps s)
      → done ≡ after_packet net classes p frame.second c
      → Made net classes (packets ++ p ∷ []) (AreCrossings net c.chosen (suc (length packets)) 1
      (length (path classes p))) done none_pending h.history [] steps
  packet_crosses packets p frame is soon put c done steps s h e =
      let came = packet_comes net classes begin put c packets steps s p frame.second h soon in
      let fields : IsFields p.fields = subst (λ (f : Fields). IsFields f) (sym is.fields) is.values in
      let few : p.octets < 2 ^ 64 = omega (arith, is.octets, is.few) in
      subst (λ (d : Contents). Made net classes (packets ++ p ∷ [])
      (AreCrossings net c.chosen (suc (length packets)) 1 (length (path classes p))) d none_pending h.history []
      steps) (sym e)
      (crosses_path net sound classes (packets ++ p ∷ []) none_pending h.history (suc (length packets)) p fields few
      (last_numbered net classes begin packets p)
      [] (path classes p) (record c { second = frame.second }) steps (with_packet classes packets p s) refl came
      h.stores)

-- ---- another destination is used

chosen_at : (chosen : List ℕ) (n place destination : ℕ) → (n ≡ place → ⊥)
    → slice_get (with_changed (λ (_ : ℕ). destination) chosen place) n ≡ slice_get chosen n
chosen_at [] n place destination ne = refl
chosen_at (x ∷ xs) zero zero destination ne = absurd (ne refl)
chosen_at (x ∷ xs) (suc n) zero destination ne = refl
chosen_at (x ∷ xs) zero (suc place) destination ne = refl
chosen_at (x ∷ xs) (suc n) (suc place) destination ne = chosen_at xs n place destination (λ e. ne (ap suc e))

chosen_here : (chosen : List ℕ) (place destination : ℕ)
    → (slice_get (with_changed (λ (_ : ℕ). destination) chosen place) place ≡ Some destination)
    ⊎ (slice_get (with_changed (λ (_ : ℕ). destination) chosen place) place ≡ slice_get chosen place)
chosen_here [] place destination = inr refl
chosen_here (x ∷ xs) zero destination = inl refl
chosen_here (x ∷ xs) (suc place) destination = chosen_here xs place destination

pub uses_so : (net : Net) (chosen : List ℕ) (place destination : ℕ) (names : Exporter) → slice_get net.exporters place
    ≡ Some names → entry_numbered names.destinations destination ≢ None
    → AllUsable net chosen → AllUsable net (with_changed (λ (_ : ℕ). destination) chosen place)
uses_so net chosen place destination names is there h n e at chooses = by (cases_eq n place) where
  new : List ℕ
  new = with_changed (λ (_ : ℕ). destination) chosen place

  by : (n ≡ place) ⊎ (n ≡ place → ⊥) → entry_numbered e.destinations (number_in_use new n) ≢ None
  by (inr ne) = subst (λ (o : Option ℕ). entry_numbered e.destinations (unwrap_or o 0) ≢ None)
      (sym (chosen_at chosen n place destination ne)) (h n e at chooses)
  by (inl same) = here (chosen_here chosen place destination) where
    own : ◌≡◌ {A = Option Exporter} (Some names) (Some e)
    own = sym is ∙ ap (slice_get net.exporters) (sym same) ∙ at

    names_is : names ≡ e
    names_is = let x = own in cc

    here : (slice_get new place ≡ Some destination) ⊎ (slice_get new place ≡ slice_get chosen place)
        → entry_numbered e.destinations (number_in_use new n) ≢ None
    here (inl now) = subst (λ (m : ℕ). entry_numbered e.destinations (number_in_use new m) ≢ None) (sym same)
        (subst (λ (o : Option ℕ). entry_numbered e.destinations (unwrap_or o 0) ≢ None) (sym now)
        (subst (λ (x : Exporter). entry_numbered x.destinations destination ≢ None) names_is there))
    here (inr as_was) = subst (λ (m : ℕ). entry_numbered e.destinations (number_in_use new m) ≢ None) (sym same)
        (subst (λ (o : Option ℕ). entry_numbered e.destinations (unwrap_or o 0) ≢ None) (sym as_was)
        (subst (λ (m : ℕ). entry_numbered e.destinations (number_in_use chosen m) ≢ None) same (h n e at chooses)))
