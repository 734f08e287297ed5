-- What the entries of a table tell.
use Rattle.std.proofs.Common.{◌≡◌, ◌⊎◌, inl, inr, ℕ, zero, suc, ◌+◌, ◌<◌, true, false, cond, ◌&&◌, ◌==◌, if◌then◌else◌, List, [], ◌∷◌, map, filter, length, Option, Some, None, refl, sym, ap, ap₂, ◌∙◌, subst, arith, slice_get}
use Rattle.std.specs.List.{list_all}
use Rattle.fx_elements.specs.Axes.{Fields}
use Rattle.fx_layout.specs.Keys.{Layout, Key, Fits, key_of, refines, reads, bits_on}
use Rattle.fx_layout.proofs.Projections.{and_true, project_key}
use Rattle.fx_tables.specs.Network.{Net, Exporter, Holder, AggregationEntry, Process, at_places, exporters_of, layout_of, takes}
use Rattle.fx_machine.specs.Acts.{Act, Tally, Send, Hold}
use Rattle.fx_machine.specs.Steps.{acts_of_leaving, acts_of_arrival, coming_to, acts_of, take_in}
use Rattle.fx_tables.specs.Ranks.{IsNetwork}
use Rattle.fx_leaf.specs.declared.verdict.Fate.{Fate}
use Rattle.fx_leaf.specs.declared.verdict.Fate.TheVariants.{Never, Once, Unassigned}
use Rattle.fx_leaf.specs.Fates.{both}
use Rattle.fx_leaf.specs.Tables.{Numbering, Numbers, number_of_layout}
use Rattle.fx_leaf.proofs.FateLaws.{Every}
use Rattle.fx_leaf.proofs.Verdicts.{both_never, never_both}
use Rattle.fx_steps.specs.Costs.{Tells, costs_of_never, costs_of_once, costs_of_unassigned, both_costs}
use Rattle.fx_steps.specs.CostTables.{CostTable, cost_entry, process_costs, destination_costs, all_destinations_costs, one_destination_costs, send_costs, sent_costs, holder_costs, all_taken_costs, tally_costs, handled_costs, cost_entry_from}
use Rattle.fx_tables.specs.Runnable.{IsHolder}
use Rattle.fx_steps.specs.Ways.{Comes, acts, one, to, tally_fate}
use Rattle.fx_steps.proofs.Places.{there}
use Rattle.fx_steps.proofs.CostsTell.{Both, both_tells, either_tells, next_tells, same_tells, no_way_tells, never_tells, once_tells, unassigned_tells}
use Rattle.fx_steps.proofs.HowWaysBegin
use Rattle.fx_steps.proofs.HowWaysBegin.{Of, Any, way_is, of_nothing, of_tally, of_hold, of_send, of_none, of_outside, of_link, of_one_link, to_one_link, append_tells, next_tells_acts}

module _ (net : Net) (n : Numbering) (fields : Fields) (network : IsNetwork net) (numbers : Numbers net n)
    (table : CostTable) where
  -- the entries for a collecting process tell of the packet's records there
  abbrev pub HasCostsAt : ℕ → Type 0
  HasCostsAt process =
      (number : ℕ) (layout : Layout) → slice_get n.layouts number ≡ Some layout → Fits layout
      → Tells (cost_entry table process number) (Of net (acts (coming_to net (key_of layout fields) process)))

  -- a destination's link is there, and leads to a process of which the table tells
  abbrev pub GoodTo : Option ℕ → Type 0
  GoodTo None = Unit {0}
  GoodTo (Some link) = (link < length net.links) × ((q : ℕ) → slice_get net.links link ≡ Some q → HasCostsAt q)

  abbrev pub GoodBy : Exporter → Type 0
  GoodBy e = Every GoodTo e.destinations

  pub no_acts_tell : Tells costs_of_never (Of net (acts []))
  no_acts_tell = never_tells (Of net (acts [])) Comes.no_act (λ f k c. (of_nothing net c).0)

  module _ (number : ℕ) (layout : Layout) (is : slice_get n.layouts number ≡ Some layout) (fits : Fits layout) where
    abbrev key : Key
    key = key_of layout fields

    arriving_tells : (o : Option ℕ) → ((q : ℕ) → o ≡ Some q → HasCostsAt q)
        → Tells (process_costs table number o) (Of net (acts (acts_of_arrival net key o)))
    arriving_tells None good = no_acts_tell
    arriving_tells (Some q) good = good q refl number layout is fits

    link_tells : (d : Option ℕ) → GoodTo d → Tells (destination_costs table net number d) (Of net (to key (d ∷ [])))
    link_tells None good = never_tells (Of net (to key (None ∷ [])))
        (Comes.to_outside key [] Never 0 (Comes.no_destination key)) (λ f k c. (of_none net (of_outside net c)).0)
    link_tells (Some link) good =
        next_tells (Of net (acts (acts_of_arrival net key (slice_get net.links link))))
        (Of net (to key (Some link ∷ []))) (process_costs table number (slice_get net.links link))
        (arriving_tells (slice_get net.links link) good.1) (λ f k c. of_one_link net c)
        (λ f m d. to_one_link net key link f m good.0 d)

    -- one destination more
    to_more : (d : Option ℕ) (ds : List (Option ℕ)) → GoodTo d → (f g : Fate) (m k : ℕ)
        → Comes net (to key (d ∷ [])) f m → Comes net (to key ds) g k → Comes net (to key (d ∷ ds)) (both f g) (m + k)
    to_more None ds good f g m k c d =
        let none = of_none net (of_outside net c) in
        let fate : g ≡ both f g = sym (ap (λ (x : Fate). both x g) none.0 ∙ never_both g) in
        let z = none.1 in
        let steps : k ≡ m + k = omega arith in
        way_is net g (both f g) k (m + k) fate steps (Comes.to_outside key ds g k d)
    to_more (Some link) ds good f g m k c d =
        let l = of_one_link net c in
        let s = l.2 in
        let steps : suc l.0 + k ≡ m + k = omega arith in
        way_is net (both f g) (both f g) (suc l.0 + k) (m + k) refl steps
        (Comes.to_link key link ds f g l.0 k good.0 l.1 d)

    to_parts : (d : Option ℕ) (ds : List (Option ℕ)) → GoodTo d → (f : Fate) (k : ℕ) → Comes net (to key (d ∷ ds)) f k
        → Both (Of net (to key (d ∷ []))) (Of net (to key ds)) (Of net (to key (d ∷ ds))) f k
    to_parts None ds good f k c = record {
      first = Never;
      second = f;
      here = 0;
      there = k;
      one =
          Comes.to_outside key [] Never 0 (Comes.no_destination key);
      other = of_outside net c;
      fate =
          sym (never_both f);
      steps = omega arith;
    }
    to_parts (Some link) ds good f k c =
        let l = of_link net c in
        record {
          first = l.first;
          second = l.second;
          here = suc l.here;
          there = l.there;
          one =
              to_one_link net key link l.first l.here good.0 l.on;
          other = l.others;
          fate = l.fate;
          steps = l.steps;
        }

    all_tell : (ds : List (Option ℕ)) → Every GoodTo ds
        → Tells (all_destinations_costs table net number ds) (Of net (to key ds))
    all_tell [] good = never_tells (Of net (to key [])) (Comes.no_destination key) (λ f k c. (of_none net c).0)
    all_tell (d ∷ ds) good =
        both_tells (Of net (to key (d ∷ []))) (Of net (to key ds)) (Of net (to key (d ∷ ds)))
        (destination_costs table net number d) (all_destinations_costs table net number ds) (link_tells d good.0)
        (all_tell ds good.1) (λ f k c. to_parts d ds good.0 f k c) (λ f g m k c e. to_more d ds good.0 f g m k c e)

    any_none : (f : Fate) (k : ℕ) → Any net key [] f k → ⊥
    any_none f k (zero, d, at, c) = absurd (cc)
    any_none f k (suc number', d, at, c) = absurd (cc)

    any_first : (d : Option ℕ) (ds : List (Option ℕ)) (f : Fate) (k : ℕ) → Any net key (d ∷ ds) f k
        → Comes net (to key (d ∷ [])) f k ⊎ Any net key ds f k
    any_first d ds f k (zero, e, at, c) = absurd (cc)
    any_first d ds f k (suc zero, e, at, c) = let same : e ≡ d = cc in
        inl (subst (λ (x : Option ℕ). Comes net (to key (x ∷ [])) f k) same c)
    any_first d ds f k (suc (suc m), e, at, c) = inr (suc m, e, at, c)

    any_later : (d : Option ℕ) (ds : List (Option ℕ)) (f : Fate) (k : ℕ) → Any net key ds f k → Any net key (d ∷ ds) f k
    any_later d ds f k (zero, e, at, c) = absurd (cc)
    any_later d ds f k (suc m, e, at, c) = (suc (suc m), e, at, c)

    any_tell : (ds : List (Option ℕ)) → Every GoodTo ds
        → Tells (one_destination_costs table net number ds) (Any net key ds)
    any_tell [] good = no_way_tells (Any net key []) any_none
    any_tell (d ∷ ds) good =
        either_tells (Of net (to key (d ∷ []))) (Any net key ds) (Any net key (d ∷ ds))
        (destination_costs table net number d) (one_destination_costs table net number ds) (link_tells d good.0)
        (any_tell ds good.1) (any_first d ds) (λ f k c. (1, d, refl, c)) (any_later d ds)

    send_all : (e : Exporter) (f : Fate) (k : ℕ) → e.parallel ≡ true → Comes net (one (Send e key)) f k
        → Comes net (to key e.destinations) f k
    send_all e f k h c = elim (of_send net c) [ inl a ↦ a.1 | inr a ↦ absurd (let x = a.0 in cc) ]

    send_any : (e : Exporter) (f : Fate) (k : ℕ) → e.parallel ≡ false → Comes net (one (Send e key)) f k
        → Any net key e.destinations f k
    send_any e f k h c = elim (of_send net c) [ inl a ↦ absurd (let x = a.0 in cc) | inr a ↦ a.1 ]

    send_tells : (e : Exporter) → GoodBy e → Tells (send_costs table net number e) (Of net (one (Send e key)))
    send_tells e good =
        elim e.parallel as (λ b. e.parallel ≡ b
        → Tells (cond b (all_destinations_costs table net number e.destinations)
        (one_destination_costs table net number e.destinations)) (Of net (one (Send e key)))) [
          | true ↦ λ h. same_tells (Of net (to key e.destinations)) (Of net (one (Send e key)))
              (all_destinations_costs table net number e.destinations) (all_tell e.destinations good)
              (λ f k c. send_all e f k h c) (λ f k c. Comes.to_all e key f k h c)
          | false ↦ λ h. same_tells (Any net key e.destinations) (Of net (one (Send e key)))
              (one_destination_costs table net number e.destinations) (any_tell e.destinations good)
              (λ f k c. send_any e f k h c) (λ f k c. Comes.to_any e key c.0 c.1 f k h c.2 c.3)
        ] refl

    pub sent_tells : (es : List Exporter) → Every GoodBy es
        → Tells (sent_costs table net number es) (Of net (acts (map (λ e. Send e key) es)))
    sent_tells [] good = no_acts_tell
    sent_tells (e ∷ es) good = next_tells_acts net (Send e key) (map (λ e. Send e key) es)
        (send_costs table net number e) (sent_costs table net number es) (send_tells e good.0) (sent_tells es good.1)

  -- ---- what holders take in

  -- the holder is there, and its exporting processes' destinations are good
  abbrev pub GoodIn : ℕ → Type 0
  GoodIn holder = IsHolder net holder × Every GoodBy (exporters_of net (slice_get net.holders holder))

  abbrev own : ℕ → Layout
  own holder = layout_of (slice_get net.holders holder)

  pub own_number : (holder : ℕ) → holder < length net.holders → slice_get n.layouts (number_of_layout n holder)
      ≡ Some (own holder)
  own_number holder lt =
      let h = there net.holders holder lt in
      numbers holder h.0 h.1 ∙ ap (λ (o : Option Holder). Some (layout_of o)) (sym h.1)

  pub held_tells : (holder : ℕ) → GoodIn holder
      → Tells (holder_costs table net n holder) (Of net (one (Hold holder (key_of (own holder) fields))))
  held_tells holder good =
      let key = key_of (own holder) fields in
      let number = number_of_layout n holder in
      next_tells (Of net (acts (acts_of_leaving net holder key))) (Of net (one (Hold holder key)))
      (sent_costs table net number (exporters_of net (slice_get net.holders holder)))
      (sent_tells number (own holder) (own_number holder good.0.there) (network.fits holder)
      (exporters_of net (slice_get net.holders holder)) good.1) (λ f k c. of_hold net c)
      (λ f k c. Comes.hold holder key f k good.0 c)

  module _ (number : ℕ) (layout : Layout) (is : slice_get n.layouts number ≡ Some layout) (fits : Fits layout) where
    abbrev here : Key
    here = key_of layout fields

    pub taken_key : (a : AggregationEntry) → takes net here a ≡ true → take_in net here a
        ≡ Hold a.holder (key_of (own a.holder) fields)
    taken_key a t =
        let two = and_true (refines layout (own a.holder))
        (list_all (λ e. reads layout e.axis e.bits && bits_on here e.axis e.bits == e.value) a.matches) t in
        ap (Hold a.holder) (project_key layout (own a.holder) fields fits two.0)

    taken_tells : (as' : List AggregationEntry) → Every (λ (a : AggregationEntry). GoodIn a.holder) as'
        → Tells (all_taken_costs table net n here as')
        (Of net (acts (map (take_in net here) (filter (takes net here) as'))))
    taken_tells [] good = no_acts_tell
    taken_tells (a ∷ as') good =
        let rest = taken_tells as' good.1 in
        let others = filter (takes net here) as' in
        elim (takes net here a) as (λ b. takes net here a ≡ b
        → Tells (cond b (both_costs (holder_costs table net n a.holder) (all_taken_costs table net n here as'))
        (all_taken_costs table net n here as'))
        (Of net (acts (map (take_in net here) (cond b (a ∷ others) others))))) [
          | true ↦ λ t. next_tells_acts net (take_in net here a) (map (take_in net here) others)
              (holder_costs table net n a.holder) (all_taken_costs table net n here as')
              (subst (λ (x : Act). Tells (holder_costs table net n a.holder) (Of net (one x))) (sym (taken_key a t))
              (held_tells a.holder good.0)) rest
          | false ↦ λ t. rest
        ] refl

    -- ---- what a collecting process does

    handled_tells : (o : Option Process) → ((p : Process) → o ≡ Some p
        → Every GoodBy (at_places net.exporters p.exporters)
        × Every (λ (a : AggregationEntry). GoodIn a.holder) p.aggregations)
        → Tells (handled_costs table net n fields number layout o) (Of net (acts (acts_of net here o)))
    handled_tells None good = no_acts_tell
    handled_tells (Some p) good =
        let g = good p refl in
        append_tells net (map (λ e. Send e here) (at_places net.exporters p.exporters))
        (map (take_in net here) (filter (takes net here) p.aggregations))
        (sent_costs table net number (at_places net.exporters p.exporters))
        (all_taken_costs table net n here p.aggregations)
        (sent_tells number layout is fits (at_places net.exporters p.exporters) g.0)
        (taken_tells p.aggregations g.1)

    lone : (g : Fate) (k : ℕ) → Comes net (acts (Tally here ∷ [])) g k → g ≡ tally_fate net here
    lone g k c =
        let b = HowWaysBegin.of_next net c in
        b.fate ∙ ap₂ both (of_tally net b.one).0 (of_nothing net b.other).0 ∙ both_never (tally_fate net here)

    alone : Comes net (acts (Tally here ∷ [])) (tally_fate net here) 0
    alone = way_is net (both (tally_fate net here) Never) (tally_fate net here) (0 + 0) 0
        (both_never (tally_fate net here)) refl
        (Comes.next_act (Tally here) [] (tally_fate net here) Never 0 0 (Comes.tally here) Comes.no_act)

    tally_tells : (process : ℕ) → Tells (tally_costs net layout process)
        (Of net (acts (if process == net.report then Tally here ∷ [] else [])))
    tally_tells process =
        elim (process == net.report) as (λ b. Tells
        (cond b (cond (refines layout net.report_layout) costs_of_once costs_of_unassigned) costs_of_never)
        (Of net (acts (cond b (Tally here ∷ []) [])))) [
          | true ↦ elim (refines layout net.report_layout)
              as (λ r. refines layout net.report_layout ≡ r
              → Tells (cond r costs_of_once costs_of_unassigned) (Of net (acts (Tally here ∷ [])))) [
                | true ↦ λ e. let fate : tally_fate net here ≡ Once = ap (λ r. cond r Once Unassigned) e in
                    once_tells (Of net (acts (Tally here ∷ [])))
                    (way_is net (tally_fate net here) Once 0 0 fate refl alone)
                    (λ f k c. lone f k c ∙ fate)
                | false ↦ λ e. let fate : tally_fate net here ≡ Unassigned = ap (λ r. cond r Once Unassigned) e in
                    unassigned_tells (Of net (acts (Tally here ∷ [])))
                    (way_is net (tally_fate net here) Unassigned 0 0 fate refl alone) (λ f k c. lone f k c ∙ fate)
              ] refl
          | false ↦ no_acts_tell
        ]

    pub entry_tells : (process : ℕ) → ((p : Process) → slice_get net.processes process ≡ Some p
        → Every GoodBy (at_places net.exporters p.exporters)
        × Every (λ (a : AggregationEntry). GoodIn a.holder) p.aggregations)
        → Tells (cost_entry_from table net n fields process number layout) (Of net (acts (coming_to net here process)))
    entry_tells process good =
        append_tells net (if process == net.report then Tally here ∷ [] else [])
        (acts_of net here (slice_get net.processes process)) (tally_costs net layout process)
        (handled_costs table net n fields number layout (slice_get net.processes process)) (tally_tells process)
        (handled_tells (slice_get net.processes process) good)
