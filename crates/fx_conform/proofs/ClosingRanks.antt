-- Collecting processes that are finished in the order of ranks: none of those that are finished gets anything more.
use Rattle.std.proofs.Common.{◌≡◌, ◌⊎◌, inl, inr, ℕ, zero, suc, ◌+◌, ◌≤◌, ◌==◌, Bool, true, false, List, [], ◌∷◌, ◌++◌, length, map, Option, Some, None, refl, sym, ap, ◌∙◌, subst, arith, slice_get, append_assoc, append-nil, eqb-true}
use Rattle.std.specs.List.{AllByRecursion, range_with_len}
use Rattle.std.proofs.lemmas.Bool.{both_ways, cases_eq, eq-eqb, false_from_ne_true, or_left, or_right}
use Rattle.fx_tables.specs.Network.{Net, AggregationEntry, Process, aggregations_of, process_at, named_by}
use Rattle.fx_link.specs.Links.{Put}
use Rattle.fx_ranks.specs.Feeding.{feeds, feeds_by}
use Rattle.fx_ranks.specs.Ranks.{ComesNext, is_in}
use Rattle.fx_ranks.proofs.OrderKeeps.{come_more, come_kept, come_last, IsReady, next_is_ready}
use Rattle.fx_runs.specs.Destinations.{links_used}
use Rattle.fx_net.specs.Arriving.{process_behind, exporters_named}
use Rattle.fx_net.specs.Contents.{Contents}
use Rattle.fx_net.specs.Doings.{Each, Ended, CarriesWhole, CarriesInto, Finishes, Where, holders_of, leads_to}
use Rattle.fx_conform.proofs.NetworkMidway.{there_is_below}
use Rattle.fx_conform.proofs.BusyLinks.{busy_in_more}
use Rattle.fx_conform.proofs.CalmLinks.{IsOfThese, LeavesOn, Rests, rests_once_carried, rests_once_all_emptied, holds_in_more}
use Rattle.fx_conform.proofs.ClosingFed.{LeadsOnlyTo, all_more, sends_where_it_feeds, leaves_where_it_feeds}

-- ---- the order

-- what feeds one of these is one of these
abbrev pub ComeFed : Net → List ℕ → Type 0
ComeFed net done = (p q : ℕ) → is_in done q ≡ true → feeds net p q ≡ true → is_in done p ≡ true

module _ (net : Net) (done : List ℕ) (process : ℕ) (ready : IsReady net done process) (fed : ComeFed net done) where
  pub come_fed_then : ComeFed net (done ++ process ∷ [])
  come_fed_then p q there f =
      come_kept done process p (elim (come_more done process q there) [
        | inl e ↦ fed p q e f
        | inr e ↦ ready.fed p (subst (λ (n : ℕ). feeds net p n ≡ true) (sym e) f)
      ])

  feeds_later : (to : ℕ) → feeds net process to ≡ true → is_in (done ++ process ∷ []) to ≡ false
  feeds_later to f =
      false_from_ne_true (is_in (done ++ process ∷ []) to) (λ there.
      both_ways (is_in done process) ready.new
      (elim (come_more done process to there) [
        | inl e ↦ fed process to e f
        | inr e ↦ ready.fed process (subst (λ (n : ℕ). feeds net process n ≡ true) (sym e) f)
      ]))

-- ---- what may be left

-- the link leads to no process that is finished
abbrev pub LeadsOn : Net → List ℕ → ℕ → Type 0
LeadsOn net done link = (to : ℕ) → slice_get net.links link ≡ Some to → is_in done to ≡ false

-- a process that isn't finished has the holder
abbrev pub IsToCome : Net → List ℕ → ℕ → Type 0
IsToCome net done holder =
    (process : ℕ) × (is_in done process ≡ false) × (is_in (holders_of (slice_get net.processes process)) holder ≡ true)

pub busy_more : (net : Net) (busy more filled : ℕ → Type 0) (c : Contents) → ((link : ℕ) → busy link → more link)
    → Rests net busy filled c → Rests net more filled c
busy_more net busy more filled c f h = (
  record {
    links = busy_in_more busy more c.links f h.0.links;
    stores = h.0.stores;
    usable = h.0.usable;
    as_many =
        h.0.as_many;
  },
  h.1,
)

all_own : (xs : List AggregationEntry) → AllByRecursion
    (λ (a : AggregationEntry). is_in (map (λ (b : AggregationEntry). b.holder) xs) a.holder ≡ true) xs
all_own [] = tt
all_own (a ∷ xs) =
    let places : List ℕ = map (λ (b : AggregationEntry). b.holder) xs in (
      or_left (a.holder == a.holder) (is_in places a.holder) (eq-eqb a.holder a.holder refl),
      all_more (λ (b : AggregationEntry). is_in places b.holder ≡ true)
          (λ (b : AggregationEntry). is_in (a.holder ∷ places) b.holder ≡ true) xs
          (λ b own. or_right (a.holder == b.holder) (is_in places b.holder) own) (all_own xs),
    )

all_mapped : (P : ℕ → Type 0) (xs : List AggregationEntry) → AllByRecursion (λ (a : AggregationEntry). P a.holder) xs
    → AllByRecursion P (map (λ (a : AggregationEntry). a.holder) xs)
all_mapped P [] h = tt
all_mapped P (a ∷ xs) h = (h.0, all_mapped P xs h.1)

led_to : (o : Option ℕ) (process : ℕ) → leads_to o process ≡ true → o ≡ Some process
led_to None process e = absurd cc
led_to (Some to) process e = ap Some (eqb-true to process e)

-- ---- a process is finished

module _ (net : Net) (done : List ℕ) (process : ℕ) (ready : IsReady net done process) (fed : ComeFed net done) where
  abbrev now : List ℕ
  now = done ++ process ∷ []

  -- The links into the process before this one were carried.
  abbrev LeadsOnFrom : ℕ → ℕ → Type 0
  LeadsOnFrom from link = (to : ℕ) → slice_get net.links link ≡ Some to → (is_in now to ≡ false)
      ⊎ ((to ≡ process) × (from ≤ link))

  on_later : (link : ℕ) → LeadsOnlyTo net (λ to. feeds net process to) link → LeadsOn net now link
  on_later link led to at = feeds_later net done process ready fed to (led to at)

  -- its aggregations are to come, and what it sends goes on to processes that are
  of_these : (busy : ℕ → Type 0) → ((link : ℕ) → LeadsOn net now link → busy link)
      → IsOfThese net busy (IsToCome net done) (slice_get net.processes process)
  of_these busy f =
      let o : Option Process = slice_get net.processes process in
      let Feeds : ℕ → Type 0 = LeadsOnlyTo net (λ to. feeds_by net to o) in
      let goes : (link : ℕ) → Feeds link → busy link = λ link led. f link (on_later link led) in
      let Own : AggregationEntry → Type 0 = λ (a : AggregationEntry). is_in (holders_of o) a.holder ≡ true in
      record {
        sends = λ chosen. all_more Feeds busy (links_used net chosen (exporters_named o)) goes
            (sends_where_it_feeds net o chosen);
        leaves = all_more _ (λ (a : AggregationEntry). LeavesOn net busy a.holder) (aggregations_of o)
            (λ a led chosen. all_more Feeds busy (links_used net chosen (named_by (slice_get net.holders a.holder)))
            goes (led chosen)) (leaves_where_it_feeds net o);
        holds = all_more Own (λ (a : AggregationEntry). IsToCome net done a.holder) (aggregations_of o)
            (λ a own. (process, ready.new, own)) (all_own (aggregations_of o));
      }

  -- ---- its links are carried

  carried_on : (from : ℕ) (b : Bool) → leads_to (slice_get net.links from) process ≡ b
      → (before : Put) (old : Contents) (after : Put) (new : Contents)
      → Rests net (LeadsOnFrom from) (IsToCome net done) old
      → Where b (Ended (CarriesWhole net from)) before old after new
      → Rests net (LeadsOnFrom (from + 1)) (IsToCome net done) new
  carried_on from true led before old after new h e =
      let less : ℕ → Type 0 = λ n. LeadsOnFrom from n × (n ≡ from → ⊥) in
      let is : slice_get net.links from ≡ Some process = led_to (slice_get net.links from) process led in
      let goes : (link : ℕ) → LeadsOn net now link → less link = λ link on. (
        λ to at. inl (on to at),
        λ same. both_ways (is_in now process) (on process (ap (slice_get net.links) same ∙ is))
            (come_last done process),
      ) in
      let these : IsOfThese net less (IsToCome net done) (process_behind net from) =
      subst (λ (o : Option ℕ). IsOfThese net less (IsToCome net done) (process_at net.processes o)) (sym is)
      (of_these less goes) in
      busy_more net less (LeadsOnFrom (from + 1)) (IsToCome net done) new
      (λ link on to at. elim (on.0 to at) [
        | inl e ↦ inl e
        | inr into ↦ (let past = on.1 in let low : from ≤ link = into.1 in inr (into.0, next_up from link low past))
      ])
      (rests_once_carried net (LeadsOnFrom from) (IsToCome net done) from before old after new these h e)
    where
      next_up : (m n : ℕ) → m ≤ n → (n ≡ m → ⊥) → m + 1 ≤ n
      next_up m n le ne = elim (cases_eq n m) [ inl e ↦ absurd (ne e) | inr other ↦ omega arith ]
  carried_on from false led before old after new h e =
      let same : Rests net (LeadsOnFrom from) (IsToCome net done) new =
      subst (Rests net (LeadsOnFrom from) (IsToCome net done)) (sym e.1) h in
      busy_more net (LeadsOnFrom from) (LeadsOnFrom (from + 1)) (IsToCome net done) new
      (λ link on to at. elim (on to at) [
        | inl e ↦ inl e
        | inr into ↦ elim (cases_eq link from) [
          | inl here ↦
              (let is : slice_get net.links from ≡ Some to = ap (slice_get net.links) (sym here) ∙ at in
              let leads : leads_to (slice_get net.links from) process ≡ true =
              ap (λ (o : Option ℕ). leads_to o process) is ∙ eq-eqb to process into.0 in
              absurd (both_ways (leads_to (slice_get net.links from) process) led leads))
          | inr other ↦ (let low : from ≤ link = into.1 in inr (into.0, omega arith))
        ]
      ])
      same

  all_carried_on : (n from : ℕ) (before : Put) (old : Contents) (after : Put) (new : Contents)
      → Rests net (LeadsOnFrom from) (IsToCome net done) old
      → Each (CarriesInto net process) (range_with_len from n) before old after new
      → Rests net (LeadsOnFrom (from + n)) (IsToCome net done) new
  all_carried_on zero from before old after new h e =
      subst (Rests net (LeadsOnFrom (from + 0)) (IsToCome net done)) (sym e.1)
      (busy_more net (LeadsOnFrom from) (LeadsOnFrom (from + 0)) (IsToCome net done) old
      (λ link on to at. elim (on to at) [
        | inl e ↦ inl e
        | inr into ↦
            (let low : from ≤ link = into.1 in inr (into.0, omega arith))
      ]) h)
  all_carried_on (suc n) from before old after new h e =
      let mid = carried_on from (leads_to (slice_get net.links from) process) refl before old e.0 e.1 h e.2 in
      let last = all_carried_on n (from + 1) e.0 e.1 after new mid e.3 in
      let many : (from + 1) + n ≡ from + suc n = omega arith in
      subst (λ (k : ℕ). Rests net (LeadsOnFrom k) (IsToCome net done) new) many last

  -- ---- and then its aggregations are emptied

  finished_then : (before : Put) (old : Contents) (after : Put) (new : Contents)
      → Rests net (LeadsOn net done) (IsToCome net done) old
      → Finishes net process before old after new → Rests net (LeadsOn net now) (IsToCome net now) new
  finished_then before old after new h e =
      let many : ℕ = length net.links in
      let o : Option Process = slice_get net.processes process in
      let first : Rests net (LeadsOnFrom 0) (IsToCome net done) old =
      busy_more net (LeadsOn net done) (LeadsOnFrom 0) (IsToCome net done) old
      (λ link on to at. elim (cases_eq to process) [
        | inl same ↦ inr (same, omega arith)
        | inr other ↦ inl (false_from_ne_true (is_in now to)
            (λ there. elim (come_more done process to there)
            [ inl e ↦ both_ways (is_in done to) (on to at) e | inr e ↦ other (sym e) ]))
      ]) h in
      let carried : Rests net (LeadsOnFrom (0 + many)) (IsToCome net done) e.1 =
      all_carried_on many 0 before old e.0 e.1 first e.2 in
      let on : Rests net (LeadsOn net now) (IsToCome net done) e.1 =
      busy_more net (LeadsOnFrom (0 + many)) (LeadsOn net now) (IsToCome net done) e.1
      (λ link on to at. elim (on to at) [
        | inl e ↦ e
        | inr into ↦ (let below = there_is_below net.links link to at in let past : 0 + many ≤ link = into.1 in
            absurd (omega arith))
      ]) carried in
      let these = of_these (LeadsOn net now) (λ link on. on) in
      holds_in_more net (LeadsOn net now) (λ n. IsToCome net done n × (is_in (holders_of o) n ≡ false))
      (IsToCome net now) new
      (λ place there. (
        there.0.0,
        false_from_ne_true (is_in now there.0.0) (λ come. elim (come_more done process there.0.0 come) [
          | inl e ↦ both_ways (is_in done there.0.0) there.0.1 e
          | inr e ↦ both_ways (is_in (holders_of o) place) there.1
              (subst (λ (p : ℕ). is_in (holders_of (slice_get net.processes p)) place ≡ true) (sym e) there.0.2)
        ]),
        there.0.2,
      ))
      (rests_once_all_emptied net (LeadsOn net now) (IsToCome net done) (holders_of o) e.0 e.1 after new
      (all_mapped (LeavesOn net (LeadsOn net now)) (aggregations_of o) these.leaves) on e.3)

-- ---- all of them are

pub all_finished : (net : Net) (done order : List ℕ) (before : Put) (old : Contents) (after : Put) (new : Contents)
    → ComesNext net done order → ComeFed net done
    → Rests net (LeadsOn net done) (IsToCome net done) old → Each (Finishes net) order before old after new
    → Rests net (LeadsOn net (done ++ order)) (IsToCome net (done ++ order)) new
all_finished net done [] before old after new comes fed h e =
    subst (λ (ps : List ℕ). Rests net (LeadsOn net ps) (IsToCome net ps) new) (sym (append-nil done))
    (subst (Rests net (LeadsOn net done) (IsToCome net done)) (sym e.1) h)
all_finished net done (x ∷ xs) before old after new comes fed h e =
    let ready : IsReady net done x = next_is_ready net done x comes.0 in
    let mid = finished_then net done x ready fed before old e.0 e.1 h e.2 in
    let last = all_finished net (done ++ x ∷ []) xs e.0 e.1 after new comes.1 (come_fed_then net done x ready fed) mid
    e.3 in
    subst (λ (ps : List ℕ). Rests net (LeadsOn net ps) (IsToCome net ps) new) (append_assoc done (x ∷ []) xs) last
