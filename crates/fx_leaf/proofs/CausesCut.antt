-- Where there is no verdict, what causes that leads on to what cuts the region.
use Rattle.std.proofs.Common.{◌≡◌, inl, inr, ℕ, ◌<◌, length, true, false, cond, ◌==◌, List, [], ◌∷◌, map, filter, All, Option, Some, None, refl, sym, ap, ◌∙◌, subst, arith, slice_get, if◌then◌else◌}
use Rattle.std.proofs.lemmas.Bool.{cases_lt}
use Rattle.std.proofs.lemmas.Option.{slice_get_past}
use Rattle.std.specs.Prelude.{Contains}
use Rattle.std.specs.List.{list_all}
use Rattle.fx_elements.specs.declared.axis.Axis.{Axis}
use Rattle.fx_boxes.specs.Boxes.{Bounds, IsRegion}
use Rattle.fx_layout.specs.Keys.{Layout, Key, key_of, refines, reads}
use Rattle.fx_layout.proofs.Projections.{and_true, project_key}
use Rattle.fx_tables.specs.declared.traffic.Crossing.{Crossing}
use Rattle.fx_tables.specs.Network.{Net, Exporter, Holder, AggregationEntry, Process, at_places, exporters_of, layout_of, aggregations_of, takes}
use Rattle.fx_machine.specs.Acts.{Act, Tally, Send}
use Rattle.fx_machine.specs.Steps.{take_in, acts_of, coming_to}
use Rattle.fx_tables.specs.Ranks.{RisesTo, Rises, AllRise, ProcessRises, IsRanked}
use Rattle.fx_leaf.specs.declared.cause.Cause.TheVariants.{Split, Behind}
use Rattle.fx_leaf.specs.declared.verdict.Fate.TheVariants.{Never, Once, Unassigned}
use Rattle.fx_leaf.specs.Reach.{IsMarked, Feeds, HoldsBehind, IsVerdict, IsFilled}
use Rattle.fx_leaf.specs.Causes.{SendsOn, IsCauseInMatches, IsCauseBySends, IsCauseIn, IsCauseAt, Starts, HasNoVerdict}
use Rattle.fx_leaf.specs.SoundLeaves.Reached.{next}
use Rattle.fx_leaf.specs.Splits.{IsSplit}
use Rattle.fx_leaf.specs.Splits.IsSplit.{of_match}
use Rattle.fx_leaf.specs.Tables.{Tables, Table, AreTables, Numbers, number_of_layout, entry_in, entry, handled_entry}
use Rattle.fx_leaf.specs.Verdicts.{tally_verdict, handled_verdict, coming_verdict, verdict}
use Rattle.fx_leaf.proofs.Ranks.{every_of_all}
use Rattle.fx_leaf.proofs.RowsAreVerdicts.{closed_from, handled_same}
use Rattle.fx_leaf.proofs.OverlapsAreRight.{match_overlap_is}
use Rattle.fx_leaf.proofs.VerdictsWhereUncut.{every_at, in_front, behind, mapped, filtered, both_none, verdict_agrees}
use Rattle.fx_leaf.proofs.Verdicts.{takes_read}

same_some : {A : Type 0} {x y : A} → Some x ≡ Some y → x ≡ y
same_some h = cc

-- a holder that names exporting processes is there, and its layout has its number
pub numbered_holder : (t : Tables) → Numbers t.net t.numbering → (holder : ℕ) (o : Option Holder)
    → slice_get t.net.holders holder ≡ o → (e : Exporter) → Contains (exporters_of t.net o) e
    → slice_get t.numbering.layouts (number_of_layout t.numbering holder) ≡ Some (layout_of o)
numbered_holder t numbers holder None is e at = absurd (let lt = at.1 in omega (arith, lt))
numbered_holder t numbers holder (Some h) is e at = numbers holder h is

module _ (t : Tables) (are : AreTables t) (region : Bounds) (r : IsRegion region) (table : Table) where
  abbrev net : Net
  net = t.net

  abbrev own : ℕ → Layout
  own holder = layout_of (slice_get net.holders holder)

  -- ---- what is done with a record at a collecting process

  module _ (from : ℕ) (p : Process) (there : slice_get net.processes from ≡ Some p) (key : Key) where
    inside : (a : Act) → Contains (acts_of net key (Some p)) a → Contains (coming_to net key from) a
    inside a at =
        behind (if from == net.report then Tally key ∷ [] else []) (acts_of net key (slice_get net.processes from)) a
        (subst (λ o. Contains (acts_of net key o) a) (sym there) at)

    is_sent : (e : Exporter) → Contains (at_places net.exporters p.exporters) e
        → Contains (coming_to net key from) (Send e key)
    is_sent e at =
        inside (Send e key) (in_front (map (λ e. Send e key) (at_places net.exporters p.exporters))
        (map (take_in net key) (filter (takes net key) p.aggregations)) (Send e key)
        (mapped (λ e. Send e key) (at_places net.exporters p.exporters) e at))

    is_taken : (a : AggregationEntry) → Contains p.aggregations a → takes net key a ≡ true
        → Contains (coming_to net key from) (take_in net key a)
    is_taken a at on =
        inside (take_in net key a) (behind (map (λ e. Send e key) (at_places net.exporters p.exporters))
        (map (take_in net key) (filter (takes net key) p.aggregations)) (take_in net key a)
        (mapped (take_in net key) (filter (takes net key) p.aggregations) a
        (filtered (takes net key) p.aggregations a at on)))

  -- ---- a step further

  module _ (path : List Crossing) (from number : ℕ) (s : Starts t region path from number) where
    abbrev key : Key
    key = key_of (own s.holder) s.fields

    same_layout : (layout : Layout) → slice_get t.numbering.layouts number ≡ Some layout → layout ≡ own s.holder
    same_layout layout is = same_some (sym is ∙ s.layout_is)

    split_among : (p : Process) → slice_get net.processes from ≡ Some p → (axis : Axis) (at : ℕ)
        → IsCauseInMatches t region table (own s.holder) p.aggregations (Split axis at)
        → IsSplit net path region axis at
    split_among p there axis at l =
        let a = l.aggregation in
        of_match a (record {
          fields = s.fields;
          process = from;
          key = key;
          here = s.here;
          reached = s.reached;
          among = subst (λ o. Contains (aggregations_of o) a) (sym there) l.among;
          read = l.is_cause.0;
        }) ((match_overlap_is region a.matches r).part l.is_cause.1) l.is_cause.2

    pub follow_split : (axis : Axis) (at : ℕ) → IsCauseAt t region table from number (Split axis at)
        → IsSplit net path region axis at
    follow_split axis at l = by l.is_cause
      where
        by : IsCauseIn t region table number l.layout l.at (Split axis at) → IsSplit net path region axis at
        by (inl none) = absurd none
        by (inr among) = split_among l.at l.process_is axis at
            (subst (λ y. IsCauseInMatches t region table y l.at.aggregations (Split axis at))
            (same_layout l.layout l.layout_is) among)

    sent_next : (p : Process) → slice_get net.processes from ≡ Some p → (process next' : ℕ)
        → IsCauseBySends t table number p (Behind process next') → Starts t region path process next'
    sent_next p there process next' (same, sends) = record {
      fields = s.fields;
      holder = s.holder;
      here = s.here;
      layout_is = ap (slice_get t.numbering.layouts) same ∙ s.layout_is;
      reached = next from key (Send sends.exporter key) process key s.reached
          (is_sent from p there key sends.exporter sends.sends) (sends.on.link, sends.on.among, sends.on.leads, refl);
    }

    taken_next : (p : Process) → slice_get net.processes from ≡ Some p → (process next' : ℕ)
        → IsCauseInMatches t region table (own s.holder) p.aggregations (Behind process next')
        → Starts t region path process next'
    taken_next p there process next' l =
        let a = l.aggregation in
        let fits = are.network.fits s.holder in
        let two = and_true (refines (own s.holder) (own a.holder))
        (list_all (λ e. reads (own s.holder) e.axis e.bits) a.matches) l.is_cause.0 in
        let on : takes net key a ≡ true = takes_read net (own s.holder) s.fields a fits l.is_cause.0
        ∙ (match_overlap_is region a.matches r).whole l.is_cause.1 s.fields s.here in
        let by = l.is_cause.2 in
        let sends = by.1 in
        record {
          fields = s.fields;
          holder = a.holder;
          here = s.here;
          layout_is = ap (slice_get t.numbering.layouts) by.0
              ∙ numbered_holder t are.numbers a.holder (slice_get net.holders a.holder) refl sends.exporter sends.sends;
          reached = next from key (take_in net key a) process (key_of (own a.holder) s.fields) s.reached
              (is_taken from p there key a l.among on) (
                sends.exporter,
                sends.sends,
                (
                  sends.on.link,
                  sends.on.among,
                  sends.on.leads,
                  sym (project_key (own s.holder) (own a.holder) s.fields fits two.0),
                ),
              );
        }

    pub follow_on : (process next' : ℕ) → IsCauseAt t region table from number (Behind process next')
        → Starts t region path process next'
    follow_on process next' l = by l.is_cause
      where
        by : IsCauseIn t region table number l.layout l.at (Behind process next') → Starts t region path process next'
        by (inl sent) = sent_next l.at l.process_is process next' sent
        by (inr among) = taken_next l.at l.process_is process next'
            (subst (λ y. IsCauseInMatches t region table y l.at.aggregations (Behind process next'))
            (same_layout l.layout l.layout_is) among)

  -- ---- there is none further on, at a process of higher rank

  pub no_verdict_on : (from number process next' : ℕ) → IsCauseAt t region table from number (Behind process next')
      → HasNoVerdict t table process next'
  no_verdict_on from number process next' l = by l.is_cause
    where
      by : IsCauseIn t region table number l.layout l.at (Behind process next') → HasNoVerdict t table process next'
      by (inl (same, sends)) = (
        subst (λ m. entry table process m ≡ None) (sym same) sends.on.none,
        (l.layout, ap (slice_get t.numbering.layouts) same ∙ l.layout_is),
      )
      by (inr among) =
          let to = among.is_cause.2 in (
            to.1.on.none,
            (
              own among.aggregation.holder,
              ap (slice_get t.numbering.layouts) to.0
                  ∙ numbered_holder t are.numbers among.aggregation.holder
                  (slice_get net.holders among.aggregation.holder)
                  refl to.1.exporter to.1.sends,
            ),
          )

  rises_by : (ranked : IsRanked net) (from number process : ℕ) (es : List Exporter) → AllRise ranked.rank net from es
      → SendsOn table net number es process → ranked.rank from < ranked.rank process
  rises_by ranked from number process es all s =
      let one = every_at (λ e. All (Rises ranked.rank net from) e.destinations) es s.exporter
      (every_of_all (λ e. All (Rises ranked.rank net from) e.destinations) es all) s.sends in
      let to = every_at (Rises ranked.rank net from) s.exporter.destinations (Some s.on.link)
      (every_of_all (Rises ranked.rank net from) s.exporter.destinations one) s.on.among in
      subst (RisesTo ranked.rank from) s.on.leads to

  pub ranks_rise : (ranked : IsRanked net) (from number process next' : ℕ)
      → IsCauseAt t region table from number (Behind process next') → ranked.rank from < ranked.rank process
  ranks_rise ranked from number process next' l =
      by (subst (ProcessRises ranked.rank net from) l.process_is (ranked.rises from)) l.is_cause
    where
      by : ProcessRises ranked.rank net from (Some l.at)
          → IsCauseIn t region table number l.layout l.at (Behind process next') → ranked.rank from
          < ranked.rank process
      by rises (inl sent) = rises_by ranked from number process (at_places net.exporters l.at.exporters) rises.0 sent.1
      by rises (inr among) =
          let a = among.aggregation in
          let P : AggregationEntry → Type 0 = λ a. AllRise ranked.rank net from
          (exporters_of net (slice_get net.holders a.holder)) in
          rises_by ranked from next' process (exporters_of net (slice_get net.holders a.holder))
          (every_at P l.at.aggregations a (every_of_all P l.at.aggregations rises.1) among.among) among.is_cause.2.1

  -- ---- what has none further on is marked

  pub sends_feed : (number : ℕ) (es : List Exporter) (process : ℕ) → SendsOn table net number es process → process
      < length net.processes → Feeds net es process
  sends_feed number es process s lt =
      record {
        exporter = s.exporter;
        among = s.sends;
        link = s.on.link;
        linked = s.on.among;
        leads =
            s.on.leads;
        there = lt;
      }

  module _ (marks : List ℕ) (filled : IsFilled net t.numbering region marks table) where
    -- there is a verdict at a process that isn't there
    pub no_verdict_within : (process number : ℕ) → HasNoVerdict t table process number → process < length net.processes
    no_verdict_within process number (none, (layout, is)) =
        elim (cases_lt process (length net.processes)) [
          | inl lt ↦ lt
          | inr le ↦ absurd (let never : entry table process number ≡ Some Never =
              ap (λ o. entry_in o number) (slice_get_past table process (omega (arith, le, filled.size))) in cc)
        ]

    pub cause_is_marked : (from number process next' : ℕ) → IsMarked marks from number
        → IsCauseAt t region table from number (Behind process next') → IsMarked marks process next'
    cause_is_marked from number process next' marked l =
        by (subst (HoldsBehind net t.numbering (IsMarked marks) number) l.process_is
        (closed_from net t.numbering marks filled.closed from number marked)) l.is_cause
      where
        lt : process < length net.processes
        lt = no_verdict_within process next' (no_verdict_on from number process next' l)

        by : HoldsBehind net t.numbering (IsMarked marks) number (Some l.at)
            → IsCauseIn t region table number l.layout l.at (Behind process next') → IsMarked marks process next'
        by sent (inl (same, sends)) =
            subst (IsMarked marks process) (sym same)
            (sent.0 process (sends_feed number (at_places net.exporters l.at.exporters) process sends lt))
        by sent (inr among) =
            let a = among.aggregation in
            let to = among.is_cause.2 in
            subst (IsMarked marks process) (sym to.0)
            (sent.1 a among.among process (sends_feed next' (exporters_of net (slice_get net.holders a.holder))
            process to.1 lt))

    -- ---- where nothing causes that there is none

    tally_some : (layout : Layout) (process : ℕ) → tally_verdict net layout process ≡ None → ⊥
    tally_some layout process h =
        elim (process == net.report) as (λ t. cond t
        (cond (refines layout net.report_layout) (Some Once) (Some Unassigned)) (Some Never) ≡ None → ⊥) [
          | true ↦ λ k. elim (refines layout net.report_layout)
              as (λ r. cond r (Some Once) (Some Unassigned) ≡ None → ⊥)
              [ true ↦ λ m. absurd (cc) | false ↦ λ m. absurd (cc) ] k
          | false ↦ λ k. absurd (cc)
        ] h

    marked_right : (process number : ℕ) → IsMarked marks process number
        → HoldsBehind net t.numbering (IsVerdict net t.numbering region table) number (slice_get net.processes process)
    marked_right process number marked = by (slice_get net.processes process)
        (closed_from net t.numbering marks filled.closed process number marked)
      where
        by : (o : Option Process) → HoldsBehind net t.numbering (IsMarked marks) number o
            → HoldsBehind net t.numbering (IsVerdict net t.numbering region table) number o
        by None h = tt
        by (Some p) h = (
          λ q. λ f. filled.verdicts q number (h.0 q f),
          λ a. λ at. λ q. λ f. filled.verdicts q
              (number_of_layout t.numbering a.holder) (h.1 a at q f),
        )

    pub some_verdict : (process number : ℕ) → IsMarked marks process number
        → ((layout : Layout) → slice_get t.numbering.layouts number ≡ Some layout
        → handled_entry table net t.numbering region number layout (slice_get net.processes process) ≡ None → ⊥)
        → HasNoVerdict t table process number → ⊥
    some_verdict process number marked none (h, (layout, is)) =
        let none_comes : coming_verdict (verdict net region) net region process layout ≡ None =
        sym (verdict_agrees net region are.network.ranked process layout)
        ∙ sym (filled.verdicts process number marked layout is) ∙ h in
        elim (both_none (tally_verdict net layout process)
        (handled_verdict (verdict net region) net region layout (slice_get net.processes process)) none_comes) [
          | inl k ↦ tally_some layout process k
          | inr k ↦ none layout is (handled_same net t.numbering region are.network.ranked are.numbers are.reports table
              filled.size number layout is (slice_get net.processes process) (marked_right process number marked) ∙ k)
        ]
