-- What acts put on links and in holders can leave again, up to the totals.
use Rattle.std.proofs.Common.{◌≡◌, inl, ℕ, zero, suc, ◌+◌, ◌<◌, ◌≤◌, true, false, cond, ◌==◌, List, [], ◌∷◌, ◌++◌, map, filter, length, append-nil, All, Option, Some, None, IfSome, refl, sym, ap, ◌∙◌, subst, arith, slice_get, slice_set}
use Rattle.std.proofs.lemmas.List.Elements.{All-nil, All-cons, All-head, All-tail}
use Rattle.std.proofs.lemmas.Option.{slice_get_within, get_or_from_slice_get}
use Rattle.fx_base.specs.declared.counts.Counts.{Counts}
use Rattle.fx_layout.specs.Keys.{Key, refines, project}
use Rattle.fx_tables.specs.declared.packet.Packet.{Packet}
use Rattle.fx_tables.specs.declared.record.Record.{Record}
use Rattle.fx_tables.specs.Network.{Net, Exporter, AggregationEntry, Process, Holder, at_places, before, exporters_of, takes, layout_of}
use Rattle.fx_tables.specs.Classes.{Class}
use Rattle.fx_machine.specs.States.{State, after_tally, add_at, put_last}
use Rattle.fx_machine.specs.Acts.{Act, Tally, Send, Hold}
use Rattle.fx_machine.specs.Steps.{acts_of_leaving, acts_of_arrival, coming_to, acts_of, take_in}
use Rattle.fx_machine.specs.Moves.{MayDoAll, Moves, Runs, ended, moved}
use Rattle.fx_tables.specs.Ranks.{RisesTo, Rises, AllRise, ProcessRises, IsRanked}
use Rattle.fx_tables.specs.Runnable.{IsHolder, HasDestinations, HasAggregations, IsRunnable}
use Rattle.fx_machine.proofs.Lists.{length_put_last}
use Rattle.fx_machine.proofs.RunsAreMoves.{runs_on}
use Rattle.fx_machine.proofs.LastLeaves.{there, put_is_set, leaves_holder, leaves_link}

-- what holds of each entry holds of one that is looked up
pub known_at : {A : Type 0} (P : A → Type 0) (xs : List A) → All P xs → (n : ℕ) → IfSome (slice_get xs n) P
known_at P xs h n =
    elim (slice_get xs n) as (λ o. slice_get xs n ≡ o → IfSome o P) [
      | None ↦ λ e. tt
      | Some x ↦ λ e. subst P (get_or_from_slice_get xs n x x e) (h n x (slice_get_within xs n x e))
    ] refl

known_at_places : {A : Type 0} (P : A → Type 0) (xs : List A) → All P xs → (places : List ℕ)
    → All P (at_places xs places)
known_at_places P xs h [] = All-nil P
known_at_places P xs h (place ∷ places) =
    let rest = known_at_places P xs h places in
    elim (slice_get xs place) as (λ o. IfSome o P → All P (before o (at_places xs places))) [
      | None ↦ λ p. rest
      | Some x ↦ λ p. All-cons P x (at_places xs places) p rest
    ] (known_at P xs h place)

module _ (net : Net) (classes : List Class) (packets : List Packet) (counts : Counts) where
  -- the state with other totals
  abbrev pub telling : List Record → ℕ → State → State
  telling totals unassigned s = record s { totals = totals; unassigned = unassigned }

  -- the acts are done, and a run from there undoes all but what was tallied
  pub record IsEmptied (acts : List Act) (s : State) : Type 0 where
    pub mid : State
    pub done : MayDoAll net counts acts s mid
    pub totals : List Record
    pub unassigned : ℕ
    pub emptied : Runs net classes packets mid (telling totals unassigned s)

  -- from every state with a list for each holder and for each link
  abbrev pub Empties : List Act → Type 0
  Empties acts = (s : State) → length s.held ≡ length net.holders → length s.carried ≡ length net.links
      → IsEmptied acts s

  -- acts that do the same are emptied alike
  same_emptied : (all acts : List Act) (s : State) (e : IsEmptied acts s) → MayDoAll net counts all s e.mid
      → IsEmptied all s
  same_emptied all acts s e done = record {
    mid = e.mid;
    done = done;
    totals = e.totals;
    unassigned =
        e.unassigned;
    emptied = e.emptied;
  }

  -- what was put before the other acts leaves after what they put
  leaves_behind : (all acts inner : List Act) (s next : State) (later : IsEmptied acts next)
      → MayDoAll net counts all s later.mid → ((totals : List Record) (unassigned : ℕ) (new : State)
      → MayDoAll net counts inner (telling totals unassigned s) new
      → Moves net classes packets (telling totals unassigned next) new)
      → IsEmptied inner (telling later.totals later.unassigned s) → IsEmptied all s
  leaves_behind all acts inner s next later done leaves last =
      let now = telling later.totals later.unassigned next in
      let end = telling last.totals last.unassigned s in
      record {
        mid = later.mid;
        done = done;
        totals = last.totals;
        unassigned = last.unassigned;
        emptied = runs_on net classes packets later.mid now end later.emptied
            (moved now last.mid end (leaves later.totals later.unassigned last.mid last.done) last.emptied);
      }

  no_act : Empties []
  no_act s held carried = record {
    mid = s;
    done = refl;
    totals = s.totals;
    unassigned = s.unassigned;
    emptied =
        ended s s refl;
  }

  -- ---- a tally

  pub tally_tells : (key : Key) (s : State) → (totals : List Record) × (unassigned : ℕ)
      × (after_tally net key counts s ≡ telling totals unassigned s)
  tally_tells key s =
      let totals = add_at s.totals (project key net.report_layout) counts in
      elim (refines key.layout net.report_layout)
      as (λ b. (ts : List Record) × (n : ℕ) × (cond b (record s { totals = totals })
      (record s { unassigned = s.unassigned + 1 }) ≡ telling ts n s)) [
        | true ↦ (totals, s.unassigned, refl)
        | false ↦ (s.totals, s.unassigned + 1, refl)
      ]

  tally_empties : (key : Key) (acts : List Act) → Empties acts → Empties (Tally key ∷ acts)
  tally_empties key acts rest s held carried =
      let t = tally_tells key s in
      let next = telling t.0 t.1 s in
      let r = rest next held carried in
      record {
        mid = r.mid;
        done = (next, sym t.2, r.done);
        totals = r.totals;
        unassigned = r.unassigned;
        emptied = r.emptied;
      }

  -- ---- a holder

  hold_empties : (holder : ℕ) (key : Key) (acts : List Act) → IsHolder net holder
      → Empties (acts_of_leaving net holder key) → Empties acts → Empties (Hold holder key ∷ acts)
  hold_empties holder key acts h inner rest s held carried =
      let r : Record = record { key = key; counts = counts } in
      let here = there s.held holder (let lt = h.there in omega arith) in
      let rs = here.0 in
      let next : State = record s { held = put_last s.held holder r } in
      let later = rest next (length_put_last s.held holder r ∙ held) carried in
      let put : next ≡ record s { held = slice_set s.held holder (rs ++ r ∷ []) } =
      ap (λ (rss : List (List Record)). record s { held = rss }) (put_is_set s.held holder rs r here.1) in
      leaves_behind (Hold holder key ∷ acts) acts (acts_of_leaving net holder key) s next later
      (next, (rs, rs ++ r ∷ [], here.1, inl refl, put), later.done)
      (λ totals unassigned new may. leaves_holder net classes packets holder h rs r (telling totals unassigned s)
      new here.1 may) (inner (telling later.totals later.unassigned s) held carried)

  -- ---- an exporting process

  abbrev to_all : List (Option ℕ) → Exporter
  to_all destinations = record { parallel = true; destinations = destinations }

  -- a record with the key that goes there can go on
  abbrev Goes : Key → Option ℕ → Type 0
  Goes key None = Unit {0}
  Goes key (Some link) = (link < length net.links) × Empties (acts_of_arrival net key (slice_get net.links link))

  link_empties : (link : ℕ) (ds : List (Option ℕ)) (key : Key) (acts : List Act) → Goes key (Some link)
      → Empties (Send (to_all ds) key ∷ acts) → Empties (Send (to_all (Some link ∷ ds)) key ∷ acts)
  link_empties link ds key acts goes rest s held carried =
      let r : Record = record { key = key; counts = counts } in
      let here = there s.carried link (let lt = goes.0 in omega arith) in
      let next : State = record s { carried = put_last s.carried link r } in
      let later = rest next held (length_put_last s.carried link r ∙ carried) in
      leaves_behind (Send (to_all (Some link ∷ ds)) key ∷ acts) (Send (to_all ds) key ∷ acts)
      (acts_of_arrival net key (slice_get net.links link)) s next later later.done
      (λ totals unassigned new may. leaves_link net classes packets link here.0 r (telling totals unassigned s) new
      here.1 may) (goes.1 (telling later.totals later.unassigned s) held carried)

  all_empties : (ds : List (Option ℕ)) (key : Key) (acts : List Act) → All (Goes key) ds → Empties acts
      → Empties (Send (to_all ds) key ∷ acts)
  all_empties [] key acts goes rest s held carried =
      let r = rest s held carried in
      same_emptied (Send (to_all []) key ∷ acts) acts s r (s, refl, r.done)
  all_empties (None ∷ ds) key acts goes rest s held carried =
      let r = all_empties ds key acts (All-tail (Goes key) None ds goes) rest s held carried in
      same_emptied (Send (to_all (None ∷ ds)) key ∷ acts) (Send (to_all ds) key ∷ acts) s r r.done
  all_empties (Some link ∷ ds) key acts goes rest s held carried =
      link_empties link ds key acts (All-head (Goes key) (Some link) ds goes)
      (all_empties ds key acts (All-tail (Goes key) (Some link) ds goes) rest) s held carried

  -- the first destination, where one is chosen
  one_empties : (ds : List (Option ℕ)) (key : Key) (acts : List Act) → 0 < length ds → All (Goes key) ds → Empties acts
      → Empties (Send (record { parallel = false; destinations = ds }) key ∷ acts)
  one_empties [] key acts lt goes rest s held carried = absurd (omega arith)
  one_empties (d ∷ ds) key acts lt goes rest s held carried =
      let first : Exporter = record { parallel = false; destinations = d ∷ ds } in
      let r = all_empties (d ∷ []) key acts (All-cons (Goes key) d [] (All-head (Goes key) d ds goes)
      (All-nil (Goes key))) rest s held carried in
      same_emptied (Send first key ∷ acts) (Send (to_all (d ∷ [])) key ∷ acts) s r
      (r.done.0, (1, d, refl, r.done.1), r.done.2)

  -- the exporting process can send a record with the key
  abbrev CanSend : Key → Exporter → Type 0
  CanSend key e = (e.parallel ≡ false → 0 < length e.destinations) × All (Goes key) e.destinations

  send_empties : (e : Exporter) (key : Key) (acts : List Act) → CanSend key e → Empties acts
      → Empties (Send e key ∷ acts)
  send_empties e key acts can rest =
      elim e.parallel as (λ b. e.parallel ≡ b
      → Empties (Send (record { parallel = b; destinations = e.destinations }) key ∷ acts)) [
        | true ↦ λ p. all_empties e.destinations key acts can.1 rest
        | false ↦ λ p. one_empties e.destinations key acts (can.0 p) can.1 rest
      ] refl

  sends_empty : (es : List Exporter) (key : Key) (acts : List Act) → All (CanSend key) es → Empties acts
      → Empties (map (λ e. Send e key) es ++ acts)
  sends_empty [] key acts can rest = rest
  sends_empty (e ∷ es) key acts can rest =
      send_empties e key (map (λ e. Send e key) es ++ acts) (All-head (CanSend key) e es can)
      (sends_empty es key acts (All-tail (CanSend key) e es can) rest)

  leaving_empties : (holder : ℕ) (key : Key) → All (CanSend key) (exporters_of net (slice_get net.holders holder))
      → Empties (acts_of_leaving net holder key)
  leaving_empties holder key can =
      let es = exporters_of net (slice_get net.holders holder) in
      subst Empties (append-nil (map (λ e. Send e key) es)) (sends_empty es key [] can no_act)

  -- records can be put in the holder
  pub record CanHold (holder : ℕ) : Type 0 where
    pub is : IsHolder net holder
    pub leave : (key : Key) → Empties (acts_of_leaving net holder key)

  -- one record in a holder for each of these
  pub holds_empty : {A : Type 0} (holder_of : A → ℕ) (key_of : A → Key) (xs : List A)
      → All (λ x. CanHold (holder_of x)) xs → Empties (map (λ x. Hold (holder_of x) (key_of x)) xs)
  holds_empty {A} holder_of key_of [] can = no_act
  holds_empty {A} holder_of key_of (x ∷ xs) can =
      let P : A → Type 0 = λ x. CanHold (holder_of x) in
      let first = All-head P x xs can in
      hold_empties (holder_of x) (key_of x) (map (λ x. Hold (holder_of x) (key_of x)) xs) first.is
      (first.leave (key_of x)) (holds_empty holder_of key_of xs (All-tail P x xs can))

  -- ---- a collecting process, along the ranks

  module _ (ranked : IsRanked net) (runnable : IsRunnable net) where
    abbrev Comes : ℕ → Type 0
    Comes n = (process : ℕ) (key : Key) → length net.processes ≤ n + ranked.rank process
        → Empties (coming_to net key process)

    exporters_at : (places : List ℕ) → All (HasDestinations net) (at_places net.exporters places)
    exporters_at places = known_at_places (HasDestinations net) net.exporters runnable.destinations places

    exporters_of_holder : (o : Option Holder) → All (HasDestinations net) (exporters_of net o)
    exporters_of_holder None = All-nil (HasDestinations net)
    exporters_of_holder (Some holder) = exporters_at holder.exporters

    -- from a process to those of higher rank
    module _ (n from : ℕ) (near : length net.processes ≤ suc n + ranked.rank from) (comes_next : Comes n) where
      up_empties : (key : Key) (o : Option ℕ) → RisesTo ranked.rank from o → Empties (acts_of_arrival net key o)
      up_empties key None rises = no_act
      up_empties key (Some process) rises = comes_next process key (omega (arith, rises, near))

      goes_up : (key : Key) (d : Option ℕ) → IfSome d (λ link. link < length net.links) → Rises ranked.rank net from d
          → Goes key d
      goes_up key None lt rises = tt
      goes_up key (Some link) lt rises = (lt, up_empties key (slice_get net.links link) rises)

      send_up : (key : Key) (es : List Exporter) → All (HasDestinations net) es → AllRise ranked.rank net from es
          → All (CanSend key) es
      send_up key es has rise i e lt =
          let here = has i e lt in
          (here.some, λ j d le. goes_up key _ (here.links j d le) (rise i e lt j d le))

      can_hold_up : (holder : ℕ) → IsHolder net holder
          → AllRise ranked.rank net from (exporters_of net (slice_get net.holders holder)) → CanHold holder
      can_hold_up holder h rises =
          let o = slice_get net.holders holder in
          record {
            is = h;
            leave = λ key. leaving_empties holder key (send_up key (exporters_of net o) (exporters_of_holder o) rises);
          }

      takes_empty : (key : Key) (as' : List AggregationEntry) → All (λ a. CanHold a.holder) as'
          → Empties (map (take_in net key) (filter (takes net key) as'))
      takes_empty key [] can = no_act
      takes_empty key (a ∷ as') can =
          let P : AggregationEntry → Type 0 = λ a. CanHold a.holder in
          let first = All-head P a as' can in
          let rest = takes_empty key as' (All-tail P a as' can) in
          let under = project key (layout_of (slice_get net.holders a.holder)) in
          elim (takes net key a) as (λ b. Empties
          (map (take_in net key) (cond b (a ∷ filter (takes net key) as') (filter (takes net key) as')))) [
            | true ↦ hold_empties a.holder under (map (take_in net key) (filter (takes net key) as')) first.is
                (first.leave under) rest
            | false ↦ rest
          ]

      acts_empty : (key : Key) (o : Option Process) → IfSome o (HasAggregations net)
          → ProcessRises ranked.rank net from o → Empties (acts_of net key o)
      acts_empty key None has rises = no_act
      acts_empty key (Some process) has rises =
          let es = at_places net.exporters process.exporters in
          let holds : All (λ a. CanHold a.holder) process.aggregations =
          λ i a lt. can_hold_up _ (has i a lt) (rises.1 i a lt) in
          sends_empty es key (map (take_in net key) (filter (takes net key) process.aggregations))
          (send_up key es (exporters_at process.exporters) rises.0) (takes_empty key process.aggregations holds)

      coming_empties : (key : Key) → Empties (coming_to net key from)
      coming_empties key =
          let rest = acts_empty key (slice_get net.processes from)
          (known_at (HasAggregations net) net.processes runnable.aggregations from) (ranked.rises from) in
          elim (from == net.report) as (λ b. Empties
          (cond b (Tally key ∷ []) [] ++ acts_of net key (slice_get net.processes from))) [
            | true ↦ tally_empties key (acts_of net key (slice_get net.processes from)) rest
            | false ↦ rest
          ]

    comes : (n : ℕ) → Comes n
    comes zero process key le = let b = ranked.below process in absurd (omega arith)
    comes (suc n) process key le = coming_empties n process le (comes n) key

    -- ---- a holder of any process or device

    arriving_empties : (key : Key) (o : Option ℕ) → Empties (acts_of_arrival net key o)
    arriving_empties key None = no_act
    arriving_empties key (Some process) = comes (length net.processes) process key (omega arith)

    goes : (key : Key) (d : Option ℕ) → IfSome d (λ link. link < length net.links) → Goes key d
    goes key None lt = tt
    goes key (Some link) lt = (lt, arriving_empties key (slice_get net.links link))

    pub can_hold : (holder : ℕ) → IsHolder net holder → CanHold holder
    can_hold holder h =
        record {
          is = h;
          leave = λ key. leaving_empties holder key
              (λ i e lt. let here = exporters_of_holder (slice_get net.holders holder) i e lt in
              (here.some, λ j d le. goes key _ (here.links j d le)));
        }
