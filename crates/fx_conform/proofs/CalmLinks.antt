-- What stays so where records arrive and leave: only some links are busy, and only some holders hold records.
use Rattle.std.proofs.Common.{◌≡◌, ℕ, zero, suc, Bool, true, false, cond, List, [], ◌∷◌, ◌++◌, ◌==◌, length, Option, Some, None, refl, sym, ◌∙◌, subst, slice_get, option_and_then}
use Rattle.std.specs.List.{AllByRecursion}
use Rattle.std.proofs.lemmas.Bool.{eqb-true, false_from_ne_true, or_from}
use Rattle.fx_base.specs.declared.counts.Counts.{Counts}
use Rattle.fx_collect.specs.Totals.{with_record}
use Rattle.fx_layout.specs.Keys.{Key, project}
use Rattle.fx_tables.specs.declared.holding.Holding.{Holding}
use Rattle.fx_tables.specs.declared.record.Record.{Record}
use Rattle.fx_tables.specs.Takers.{intakes}
use Rattle.fx_tables.specs.Network.{Net, Holder, AggregationEntry, Process, aggregations_of, layout_of, named_by, takes_with}
use Rattle.fx_link.specs.Links.{Put}
use Rattle.fx_link.specs.Ongoing.{after_carry, after_finish}
use Rattle.fx_ranks.specs.Ranks.{is_in}
use Rattle.fx_runs.specs.Destinations.{links_used}
use Rattle.fx_store.specs.Flows.{Entry}
use Rattle.fx_net.specs.Arriving.{process_behind, leads_to_report, exporters_named, takers, after_tally, after_arrive, after_arrivals, after_carrying, waiting_on, with_left, queued_on}
use Rattle.fx_net.specs.Contents.{Contents, with_changed, stored_at, is_immediate}
use Rattle.fx_net.specs.Doings.{Ended, Empties, EmptiesAll, CarriesWhole}
use Rattle.fx_net.specs.Exporting.{after_send}
use Rattle.fx_net.specs.Finishing.{after_finishing}
use Rattle.fx_net.specs.Leaving.{leaver, least_of, without_least, count_at, after_leave, after_leaves}
use Rattle.fx_net.specs.Stores.{Stored, makes_room}
use Rattle.fx_net.specs.Taking.{stores_and_leavers, left_by, leaves_at_once, all_leave_at_once, after_adding, after_taking, with_stores}
use Rattle.fx_conform.specs.Closing.{NothingWaits}
use Rattle.fx_conform.specs.Held.{Leaver}
use Rattle.fx_conform.specs.Emptying.{leasts, without_leasts}
use Rattle.fx_conform.specs.Usable.{AreUsable}
use Rattle.fx_conform.proofs.BusyLinks.{OnlyBusy, busy_where_put, busy_once_finished, finished_all, busy_but_carried, busy_once_left}
use Rattle.fx_conform.proofs.ClosingFilled.{OnlyFilled, filled_in_more, filled_by_adding, usable_by_adding, usable_by_leasts, filled_but_emptied}
use Rattle.fx_conform.proofs.PacketsCross.{all_join}
use Rattle.fx_conform.proofs.EmptiedHolders.{emptying_is_leaving}
use Rattle.fx_conform.proofs.LinkPlaces.{mapped_many, changed_many, put_each_many}
use Rattle.fx_conform.proofs.CountsTakenIn.{after_one, out_by, left_then}

-- ---- who leaves where counts are taken in

module _ (P : ℕ → Type 0) where
  pub one_so : (holder : ℕ) (o : Option Entry) → P holder
      → AllByRecursion (λ (l : Leaver). P l.holder) (left_by holder o)
  one_so holder None h = tt
  one_so holder (Some e) h = (h, tt)

  left_so : (counts : Counts) (hs : List Holding) (stores : List (Option Stored))
      → AllByRecursion (λ (h : Holding). P h.holder) hs
      → AllByRecursion (λ (l : Leaver). P l.holder) (stores_and_leavers stores counts hs).left
  left_so counts [] stores h = tt
  left_so counts (x ∷ hs) stores h =
      subst (AllByRecursion (λ (l : Leaver). P l.holder)) (sym (left_then counts x hs stores))
      (all_join (λ (l : Leaver). P l.holder) (out_by counts x stores) _
      (one_so x.holder (option_and_then (λ s. makes_room s x.key counts) (stored_at stores x.holder)) h.0)
      (left_so counts hs (after_one counts x stores) h.1))

  at_once_so : (counts : Counts) (hs : List Holding) (stores : List (Option Stored))
      → AllByRecursion (λ (h : Holding). P h.holder) hs
      → AllByRecursion (λ (l : Leaver). P l.holder) (all_leave_at_once stores counts hs)
  at_once_so counts [] stores h = tt
  at_once_so counts (x ∷ hs) stores h = all_join (λ (l : Leaver). P l.holder) (leaves_at_once stores counts x) _
      (by (is_immediate (stored_at stores x.holder))) (at_once_so counts hs stores h.1) where
        by : (b : Bool) → AllByRecursion (λ (l : Leaver). P l.holder) (cond b (leaver x.holder (x.key, counts) ∷ []) [])
        by true = (h.0, tt)
        by false = tt

  leasts_so : (place n : ℕ) (stores : List (Option Stored)) → P place
      → AllByRecursion (λ (l : Leaver). P l.holder) (leasts place stores n)
  leasts_so place zero stores h = tt
  leasts_so place (suc n) stores h = all_join (λ (l : Leaver). P l.holder)
      (left_by place (least_of (stored_at stores place))) _ (one_so place (least_of (stored_at stores place)) h)
      (leasts_so place n (without_least stores place) h)

  takers_so : (holders : List Holder) (key : Key) (xs : List AggregationEntry)
      → AllByRecursion (λ (a : AggregationEntry). P a.holder) xs
      → AllByRecursion (λ (h : Holding). P h.holder) (intakes holders key xs)
  takers_so holders key [] h = tt
  takers_so holders key (a ∷ xs) h = by (takers_so holders key xs h.1) (takes_with holders key a) where
    by : AllByRecursion (λ (h : Holding). P h.holder) (intakes holders key xs) → (b : Bool)
        → AllByRecursion (λ (h : Holding). P h.holder)
        (cond b (record { holder = a.holder; key = project key (layout_of (slice_get holders a.holder)) } ∷ []) []
        ++ intakes holders key xs)
    by ih true = (h.0, ih)
    by ih false = ih

module _ (net : Net) where
  -- whatever these exporting processes choose, they send only on such links
  abbrev pub SendsOn : (ℕ → Type 0) → List ℕ → Type 0
  SendsOn busy places = (chosen : List ℕ) → AllByRecursion busy (links_used net chosen places)

  -- and so do those that the holder names
  abbrev pub LeavesOn : (ℕ → Type 0) → ℕ → Type 0
  LeavesOn busy holder = SendsOn busy (named_by (slice_get net.holders holder))

  -- only such links are busy, and only such holders hold records
  pub record IsCalm (busy filled : ℕ → Type 0) (c : Contents) : Type 0 where
    pub links : OnlyBusy busy c.links
    pub stores : OnlyFilled filled c.stores
    pub usable : AreUsable c.stores
    pub as_many : length c.links ≡ length net.links

  -- a process that sends on such links, and whose aggregations are such holders
  pub record IsOfThese (busy filled : ℕ → Type 0) (process : Option Process) : Type 0 where
    pub sends : SendsOn busy (exporters_named process)
    pub leaves : AllByRecursion (λ (a : AggregationEntry). LeavesOn busy a.holder) (aggregations_of process)
    pub holds : AllByRecursion (λ (a : AggregationEntry). filled a.holder) (aggregations_of process)

  module _ (busy filled : ℕ → Type 0) where
    -- ---- records leave, and are taken in

    calm_by_sending : (places : List ℕ) (r : Record) (c : Contents) → SendsOn busy places → IsCalm busy filled c
        → IsCalm busy filled (after_send net places r c)
    calm_by_sending places r c on h = record {
      links = busy_where_put busy c.second r (links_used net c.chosen places) c.links (on c.chosen) h.links;
      stores = h.stores;
      usable = h.usable;
      as_many = put_each_many c.second r (links_used net c.chosen places) c.links ∙ h.as_many;
    }

    calm_by_leaving : (ls : List Leaver) (c : Contents) → AllByRecursion (λ (l : Leaver). LeavesOn busy l.holder) ls
        → IsCalm busy filled c → IsCalm busy filled (after_leaves net ls c)
    calm_by_leaving [] c on h = h
    calm_by_leaving (l ∷ ls) c on h = calm_by_leaving ls (after_leave net l c) on.1
        (calm_by_sending (named_by (slice_get net.holders l.holder)) l.flow c on.0 h)

    calm_by_taking : (counts : Counts) (hs : List Holding) (c : Contents)
        → AllByRecursion (λ (h : Holding). LeavesOn busy h.holder) hs
        → AllByRecursion (λ (h : Holding). filled h.holder) hs
        → IsCalm busy filled c → IsCalm busy filled (after_taking net counts hs c)
    calm_by_taking counts hs c on there h =
        let stores : List (Option Stored) = (stores_and_leavers c.stores counts hs).stores in
        let kept : IsCalm busy filled (with_stores c stores) = record {
          links = h.links;
          stores = filled_by_adding filled counts hs c.stores there h.stores;
          usable = usable_by_adding counts hs c.stores h.usable;
          as_many = h.as_many;
        } in
        calm_by_leaving (all_leave_at_once stores counts hs) (after_adding net counts hs c)
        (at_once_so (LeavesOn busy) counts hs stores on)
        (calm_by_leaving (stores_and_leavers c.stores counts hs).left (with_stores c stores)
        (left_so (LeavesOn busy) counts hs c.stores on) kept)

    -- ---- records arrive

    calm_by_tally : (link : ℕ) (r : Record) (c : Contents) → IsCalm busy filled c
        → IsCalm busy filled (after_tally net link r c)
    calm_by_tally link r c h = by (leads_to_report net (slice_get net.links link)) where
      by : (b : Bool) → IsCalm busy filled (cond b (record c { totals = with_record c.totals r }) c)
      by true = record { links = h.links; stores = h.stores; usable = h.usable; as_many = h.as_many }
      by false = h

    calm_by_arriving : (link : ℕ) (rs : List Record) (c : Contents) → IsOfThese busy filled (process_behind net link)
        → IsCalm busy filled c → IsCalm busy filled (after_arrivals net link rs c)
    calm_by_arriving link [] c these h = h
    calm_by_arriving link (r ∷ rs) c these h =
        let aggregations : List AggregationEntry = aggregations_of (process_behind net link) in
        calm_by_arriving link rs (after_arrive net link r c) these
        (calm_by_taking r.counts (takers net link r.key) _
        (takers_so (LeavesOn busy) net.holders r.key aggregations these.leaves)
        (takers_so filled net.holders r.key aggregations these.holds)
        (calm_by_sending (exporters_named (process_behind net link)) r (after_tally net link r c) these.sends
        (calm_by_tally link r c h)))

  -- ---- between two times at which nothing waits

  abbrev pub Rests : (ℕ → Type 0) → (ℕ → Type 0) → Contents → Type 0
  Rests busy filled c = IsCalm busy filled c × NothingWaits c.links

  rests_once_finished : (busy filled : ℕ → Type 0) (c : Contents) → IsCalm busy filled c
      → Rests busy filled (after_finishing c)
  rests_once_finished busy filled c h = (
    record {
      links = busy_once_finished busy c.second c.links h.links;
      stores = h.stores;
      usable = h.usable;
      as_many = mapped_many (after_finish c.second) c.links ∙ h.as_many;
    },
    finished_all c.second c.links,
  )

  -- the link at a place is carried whole
  pub rests_once_carried : (busy filled : ℕ → Type 0) (link : ℕ) (before : Put) (old : Contents) (after : Put)
      (new : Contents) → IsOfThese (λ n. busy n × (n ≡ link → ⊥)) filled (process_behind net link)
      → Rests busy filled old → Ended (CarriesWhole net link) before old after new
      → Rests (λ n. busy n × (n ≡ link → ⊥)) filled new
  rests_once_carried busy filled link before old after new these h e =
      let less : ℕ → Type 0 = λ n. busy n × (n ≡ link → ⊥) in
      let many : ℕ = queued_on (slice_get old.links link) in
      let on : Contents = record old { links = with_changed (after_carry many) old.links link } in
      let came : Contents = record on { links = with_changed (with_left []) on.links link } in
      let calm : IsCalm less filled came = record {
        links = busy_once_left less on.links link (busy_but_carried busy old.links link h.1 h.0.links);
        stores = h.0.stores;
        usable = h.0.usable;
        as_many = changed_many (with_left []) on.links link ∙ changed_many (after_carry many) old.links link
            ∙ h.0.as_many;
      } in
      let done : IsCalm less filled (after_carrying net link many old) =
      calm_by_arriving less filled link (waiting_on (slice_get on.links link)) came these calm in
      subst (Rests less filled) (sym e.new_is)
      (rests_once_finished less filled e.done (subst (IsCalm less filled) (sym e.made) done))

  -- the holder at a place is emptied
  rests_once_emptied : (busy filled : ℕ → Type 0) (place : ℕ) (before : Put) (old : Contents) (after : Put)
      (new : Contents) → LeavesOn busy place
      → Rests busy filled old → Ended (Empties net place) before old after new
      → Rests busy (λ n. filled n × (n ≡ place → ⊥)) new
  rests_once_emptied busy filled place before old after new on h e =
      let less : ℕ → Type 0 = λ n. filled n × (n ≡ place → ⊥) in
      let many : ℕ = count_at old place in
      let kept : Contents = with_stores old (without_leasts place old.stores many) in
      let calm : IsCalm busy less kept = record {
        links = h.0.links;
        stores = filled_but_emptied filled old.stores place h.0.usable h.0.stores;
        usable = usable_by_leasts many old.stores place h.0.usable;
        as_many = h.0.as_many;
      } in
      let left : IsCalm busy less (after_leaves net (leasts place old.stores many) kept) =
      calm_by_leaving busy less (leasts place old.stores many) kept
      (leasts_so (LeavesOn busy) place many old.stores on) calm in
      let done : IsCalm busy less e.done = subst (IsCalm busy less) (sym (e.made ∙ emptying_is_leaving net place old))
      left in
      subst (Rests busy less) (sym e.new_is) (rests_once_finished busy less e.done done)

  pub holds_in_more : (busy filled more : ℕ → Type 0) (c : Contents) → ((place : ℕ) → filled place → more place)
      → Rests busy filled c → Rests busy more c
  holds_in_more busy filled more c f h = (
    record {
      links = h.0.links;
      stores = filled_in_more filled more c.stores f h.0.stores;
      usable = h.0.usable;
      as_many =
          h.0.as_many;
    },
    h.1,
  )

  -- the holders at these places are, one after another
  pub rests_once_all_emptied : (busy filled : ℕ → Type 0) (places : List ℕ) (before : Put) (old : Contents)
      (after : Put) (new : Contents) → AllByRecursion (LeavesOn busy) places
      → Rests busy filled old → EmptiesAll net places before old after new
      → Rests busy (λ n. filled n × (is_in places n ≡ false)) new
  rests_once_all_emptied busy filled [] before old after new on h e =
      subst (Rests busy (λ n. filled n × (is_in [] n ≡ false))) (sym e.1)
      (holds_in_more busy filled (λ n. filled n × (is_in [] n ≡ false)) old (λ n there. (there, refl)) h)
  rests_once_all_emptied busy filled (x ∷ xs) before old after new on h e =
      let less : ℕ → Type 0 = λ n. filled n × (n ≡ x → ⊥) in
      holds_in_more busy (λ n. less n × (is_in xs n ≡ false)) (λ n. filled n × (is_in (x ∷ xs) n ≡ false)) new
      (λ n there. (
        there.0.0,
        or_from (x == n) (is_in xs n)
            (false_from_ne_true (x == n) (λ same. there.0.1 (sym (eqb-true x n same)))) there.1,
      ))
      (rests_once_all_emptied busy less xs e.0 e.1 after new on.1
      (rests_once_emptied busy filled x before old e.0 e.1 on.0 h e.2) e.3)
