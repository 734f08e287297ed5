-- Entries that are filled in order where they are marked are the verdicts.
use Rattle.std.proofs.Common.{◌≡◌, ◌⊎◌, inl, inr, ℕ, zero, suc, ◌+◌, ◌<◌, ◌≤◌, Bool, true, false, cond, ◌==◌, List, [], ◌∷◌, map, length, get_or, All, Option, Some, None, refl, sym, ap, ap₂, ◌∙◌, subst, arith, slice_get, eqb-true, le_of_suc-le-suc}
use Rattle.std.proofs.lemmas.Bool.{cases_lt}
use Rattle.std.proofs.lemmas.Option.{slice_get_past}
use Rattle.std.specs.Prelude.{Contains}
use Rattle.fx_boxes.specs.Boxes.{Bounds}
use Rattle.fx_layout.specs.Keys.{Layout, refines}
use Rattle.fx_tables.specs.Network.{Net, Exporter, Holder, AggregationEntry, Process, at_places, exporters_of, layout_of}
use Rattle.fx_tables.specs.Ranks.{RisesTo, Rises, AllRise, ProcessRises, IsRanked}
use Rattle.fx_tables.specs.Orders.{Descends}
use Rattle.fx_leaf.specs.declared.verdict.Fate.TheVariants.{Never, Once, Unassigned}
use Rattle.fx_leaf.specs.Answers.{TableIsVerdicts}
use Rattle.fx_leaf.specs.Reach.{IsMarked, Feeds, HoldsWhereSent, HoldsBehindHolder, HoldsBehind, IsClosed, IsVerdict, Agrees}
use Rattle.fx_leaf.specs.Overlaps.{region_overlap, match_fields}
use Rattle.fx_leaf.specs.Tables.{Numbering, number_of_layout, Numbers, Table, entry_in, entry, taken_entry, handled_entry, entry_from}
use Rattle.fx_leaf.specs.Verdicts.{Verdict, verdict_of_both, verdict_of_all, verdict_of_one, overlap_verdict, process_verdict, destination_verdict, send_verdict, sent_verdict, holder_verdict, layout_reads, taken_verdict, tally_verdict, handled_verdict, verdict}
use Rattle.fx_leaf.proofs.Ranks.{every_of_all}
use Rattle.fx_leaf.proofs.VerdictsWhereUncut.{every_at, further, verdict_agrees}

-- ---- processes that are fed have a higher rank

pub fed_higher : (net : Net) (rank : ℕ → ℕ) (from q : ℕ) (es : List Exporter) → AllRise rank net from es
    → Feeds net es q → rank from < rank q
fed_higher net rank from q es all f =
    let one = every_at (λ e. All (Rises rank net from) e.destinations) es f.exporter
    (every_of_all (λ e. All (Rises rank net from) e.destinations) es all) f.among in
    let to = every_at (Rises rank net from) f.exporter.destinations (Some f.link)
    (every_of_all (Rises rank net from) f.exporter.destinations one) f.linked in
    subst (RisesTo rank from) f.leads to

-- what holds wherever records come from a process, where it holds at all of higher rank
module _ (net : Net) (n : Numbering) (rank : ℕ → ℕ) (from : ℕ) (P Q : ℕ → ℕ → Type 0)
    (step : (q i : ℕ) → q < length net.processes → rank from < rank q → P q i → Q q i) where
  sent_on_higher : (i : ℕ) (es : List Exporter) → AllRise rank net from es → HoldsWhereSent net P i es
      → HoldsWhereSent net Q i es
  sent_on_higher i es all h q f = step q i f.there (fed_higher net rank from q es all f) (h q f)

  pub on_higher : (i : ℕ) (o : Option Process) → ProcessRises rank net from o → HoldsBehind net n P i o
      → HoldsBehind net n Q i o
  on_higher i None up h = tt
  on_higher i (Some p) up h =
      let R : AggregationEntry → Type 0 = λ a. AllRise rank net from (exporters_of net (slice_get net.holders a.holder))
      in (
        sent_on_higher i (at_places net.exporters p.exporters) up.0 h.0,
        λ a. λ at. sent_on_higher (number_of_layout n a.holder) (exporters_of net (slice_get net.holders a.holder))
            (every_at R p.aggregations a (every_of_all R p.aggregations up.1) at) (h.1 a at),
      )

pub closed_from : (net : Net) (n : Numbering) (marks : List ℕ) → IsClosed net n marks → (process number : ℕ)
    → IsMarked marks process number → HoldsBehind net n (IsMarked marks) number (slice_get net.processes process)
closed_from net n marks closed process number h = by (slice_get net.processes process) refl
  where
    by : (o : Option Process) → slice_get net.processes process ≡ o → HoldsBehind net n (IsMarked marks) number o
    by None is = tt
    by (Some p) is = closed process number p h is

-- ---- an entry from right entries

module _ (net : Net) (n : Numbering) (region : Bounds) (ranked : IsRanked net) (numbers : Numbers net n)
    (reports : net.report < length net.processes) (table : Table) (size : length table ≡ length net.processes) where
  abbrev Right : ℕ → ℕ → Type 0
  Right process number = IsVerdict net n region table process number

  other_process : (q : ℕ) → length net.processes ≤ q → (q == net.report) ≡ false
  other_process q le = apart (q == net.report) refl where
    apart : (t : Bool) → (q == net.report) ≡ t → t ≡ false
    apart true e = let same : q ≡ net.report = eqb-true _ _ e in absurd (omega (arith, le, same, reports))
    apart false e = refl

  -- a process that isn't there handles nothing
  pub not_there : (q number : ℕ) → length net.processes ≤ q → Right q number
  not_there q number le layout is =
      let none : slice_get table q ≡ None = slice_get_past table q (omega (arith, size, le)) in
      let tally : tally_verdict net layout q ≡ Some Never =
      ap (λ t. cond t (cond (refines layout net.report_layout) (Some Once) (Some Unassigned)) (Some Never))
      (other_process q le) in
      let handled : handled_verdict (verdict net region) net region layout (slice_get net.processes q) ≡ Some Never =
      ap (handled_verdict (verdict net region) net region layout) (slice_get_past net.processes q le) in
      ap (λ o. entry_in o number) none ∙ sym (verdict_agrees net region ranked q layout
      ∙ ap₂ verdict_of_both tally handled)

  module _ (number : ℕ) (layout : Layout) (is : slice_get n.layouts number ≡ Some layout) where
    -- where the entries for the processes to which these lead are right
    abbrev Leads : Option ℕ → Type 0
    Leads d = (link q : ℕ) → d ≡ Some link → slice_get net.links link ≡ Some q → q < length net.processes
        → Right q number

    process_same : (o : Option ℕ) → ((q : ℕ) → o ≡ Some q → q < length net.processes → Right q number)
        → process_verdict (entry table) number o ≡ process_verdict (verdict net region) layout o
    process_same None h = refl
    process_same (Some q) h =
        elim (cases_lt q (length net.processes)) [
          | inl lt ↦ h q refl lt layout is
          | inr le ↦ not_there q number le layout is
        ]

    destination_same : (d : Option ℕ) → Leads d → destination_verdict (entry table) net number d
        ≡ destination_verdict (verdict net region) net layout d
    destination_same None h = refl
    destination_same (Some link) h = process_same (slice_get net.links link) (λ q. h link q refl)

    destinations_same : (ds : List (Option ℕ)) → ((d : Option ℕ) → Contains ds d → Leads d)
        → map (destination_verdict (entry table) net number) ds
        ≡ map (destination_verdict (verdict net region) net layout) ds
    destinations_same [] h = refl
    destinations_same (d ∷ ds) h =
        ap₂ (λ (v : Verdict) (vs : List Verdict). v ∷ vs) (destination_same d (h d (zero, omega arith, refl)))
        (destinations_same ds (λ x. λ at. h x (further x d ds at)))

    send_same : (e : Exporter) → ((d : Option ℕ) → Contains e.destinations d → Leads d)
        → send_verdict (entry table) net number e ≡ send_verdict (verdict net region) net layout e
    send_same e h = ap (λ vs. cond e.parallel (verdict_of_all vs) (verdict_of_one vs))
        (destinations_same e.destinations h)

    each_same : (es : List Exporter) → ((e : Exporter) → Contains es e → (d : Option ℕ) → Contains e.destinations d
        → Leads d) → sent_verdict (entry table) net number es ≡ sent_verdict (verdict net region) net layout es
    each_same [] h = refl
    each_same (e ∷ es) h =
        ap₂ verdict_of_both (send_same e (h e (zero, omega arith, refl)))
        (each_same es (λ x. λ at. h x (further x e es at)))

    sent_same : (es : List Exporter) → HoldsWhereSent net Right number es → sent_verdict (entry table) net number es
        ≡ sent_verdict (verdict net region) net layout es
    sent_same es h =
        each_same es (λ e. λ at. λ d. λ linked. λ link. λ q. λ this. λ leads. λ lt. h q
        (record {
          exporter = e;
          among = at;
          link = link;
          linked =
              subst (Contains e.destinations) this linked;
          leads = leads;
          there = lt;
        }))

  pub holder_same : (holder : ℕ) → HoldsBehindHolder net n Right holder
      → sent_verdict (entry table) net (number_of_layout n holder) (exporters_of net (slice_get net.holders holder))
      ≡ holder_verdict (verdict net region) net holder
  holder_same holder right = by (slice_get net.holders holder) refl right
    where
      by : (o : Option Holder) → slice_get net.holders holder ≡ o
          → HoldsWhereSent net Right (number_of_layout n holder) (exporters_of net o)
          → sent_verdict (entry table) net (number_of_layout n holder) (exporters_of net o)
          ≡ sent_verdict (verdict net region) net (layout_of o) (exporters_of net o)
      by None e h = refl
      by (Some x) e h = sent_same (number_of_layout n holder) x.layout (numbers holder x e) (exporters_of net (Some x))
          h

  taken_same : (layout : Layout) (a : AggregationEntry) → HoldsBehindHolder net n Right a.holder
      → taken_entry table net n region layout a ≡ taken_verdict (verdict net region) net region layout a
  taken_same layout a h =
      ap (λ v. cond (layout_reads net layout a) (overlap_verdict (region_overlap region (match_fields a.matches)) v)
      (Some Never)) (holder_same a.holder h)

  all_taken_same : (layout : Layout) (as' : List AggregationEntry)
      → ((a : AggregationEntry) → Contains as' a → HoldsBehindHolder net n Right a.holder)
      → map (taken_entry table net n region layout) as' ≡ map (taken_verdict (verdict net region) net region layout) as'
  all_taken_same layout [] h = refl
  all_taken_same layout (a ∷ as') h =
      ap₂ (λ (v : Verdict) (vs : List Verdict). v ∷ vs) (taken_same layout a (h a (zero, omega arith, refl)))
      (all_taken_same layout as' (λ x. λ at. h x (further x a as' at)))

  pub handled_same : (number : ℕ) (layout : Layout) → slice_get n.layouts number ≡ Some layout → (o : Option Process)
      → HoldsBehind net n Right number o → handled_entry table net n region number layout o
      ≡ handled_verdict (verdict net region) net region layout o
  handled_same number layout is None h = refl
  handled_same number layout is (Some p) h =
      ap₂ verdict_of_both (sent_same number layout is (at_places net.exporters p.exporters) h.0)
      (ap verdict_of_all (all_taken_same layout p.aggregations h.1))

  pub entry_same : (process number : ℕ) (layout : Layout) → slice_get n.layouts number ≡ Some layout
      → HoldsBehind net n Right number (slice_get net.processes process)
      → entry_from table net n region process number layout ≡ verdict net region process layout
  entry_same process number layout is h =
      ap (verdict_of_both (tally_verdict net layout process))
      (handled_same number layout is (slice_get net.processes process) h)
      ∙ sym (verdict_agrees net region ranked process layout)

  -- ---- where each entry agrees with those that it is worked out from

  module _ (marks : List ℕ) (closed : IsClosed net n marks) (agrees : Agrees net n region marks table) where
    up_to : (count process number : ℕ) → length net.processes ≤ ranked.rank process + count
        → IsMarked marks process number → Right process number
    up_to zero process number le h layout is = absurd (let below = ranked.below process in omega (arith, le, below))
    up_to (suc count) process number le h layout is =
        agrees process number layout h is ∙ entry_same process number layout is
        (on_higher net n ranked.rank process (IsMarked marks) Right
        (λ q. λ i. λ lt. λ up. λ m. up_to count q i (omega (arith, le, up)) m) number
        (slice_get net.processes process) (ranked.rises process) (closed_from net n marks closed process number h))

    pub all_right : (process number : ℕ) → IsMarked marks process number → Right process number
    all_right process number h = up_to (length net.processes) process number (omega arith) h

pub table_is_verdicts : TableIsVerdicts
table_is_verdicts net n region marks table ranked numbers reports size closed agrees =
    all_right net n region ranked numbers reports table size marks closed agrees

-- ---- filled in order

-- at one of the first places of an order
abbrev pub Before : List ℕ → ℕ → ℕ → Type 0
Before order k q = (j : ℕ) × (j < k) × (get_or order j 0 ≡ q)

pub higher_before : (net : Net) (rank : ℕ → ℕ) (done order : List ℕ) (k : ℕ) → Descends net rank done order → k
    < length order → (q : ℕ) → q < length net.processes → rank (get_or order k 0) < rank q → (Contains done q)
    ⊎ (Before order k q)
higher_before net rank done [] k falls lt q there up = absurd (omega arith)
higher_before net rank done (p ∷ ps) zero falls lt q there up = inl (falls.1 q there up)
higher_before net rank done (p ∷ ps) (suc k) falls lt q there up =
    by (higher_before net rank (p ∷ done) ps k falls.2 (le_of_suc-le-suc lt) q there up)
  where
    by : (Contains (p ∷ done) q) ⊎ (Before ps k q) → (Contains done q) ⊎ (Before (p ∷ ps) (suc k) q)
    by (inl (zero, below, e)) = inr (zero, omega arith, e)
    by (inl (suc j, below, e)) = inl (j, le_of_suc-le-suc below, e)
    by (inr (j, below, e)) = inr (suc j, omega (arith, below), e)
