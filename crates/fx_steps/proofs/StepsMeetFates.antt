-- A record on its way may take its step so that the wanted fate is met, at the least cost.
use Rattle.std.proofs.Common.{◌≡◌, ℕ, suc, ◌≤◌, true, false, cond, ◌==◌, List, [], ◌∷◌, length, Option, Some, None, refl, sym, ap, ap₂, ◌∙◌, subst, arith, slice_get}
use Rattle.std.specs.List.{AllByRecursion}
use Rattle.fx_tables.specs.Occurrences.{occurrences}
use Rattle.fx_tables.specs.declared.traffic.Crossing.{Crossing}
use Rattle.fx_steps.specs.CostTables.{occurrence_costs, CostTable, cost_entry, cost_fill, process_costs, destination_costs, sent_costs, holder_costs, tally_costs, handled_costs, cost_entry_from}
use Rattle.fx_steps.specs.Planning.{Crosses, sent_pending, layout_in, total_cost, total_fate, pending_items, pending_cost, keys_fate, IsThere, Steps, arrival_pending, arrival_choices, arrival_keys}
use Rattle.fx_steps.proofs.PlansMeetFates.{meets_meet, sends_meet, handles_meet}
use Rattle.fx_steps.proofs.PlansCanBeDone.{meets_spread, HasAll, leaving_spreads, coming_spreads, tally_is, tally_comes, same_cost}
use Rattle.fx_steps.proofs.PathCosts.{caches_met, each_good}
use Rattle.fx_elements.specs.Axes.{Fields}
use Rattle.fx_layout.specs.Keys.{Layout, Fits, key_of}
use Rattle.fx_tables.specs.Network.{Net, AggregationEntry, Process, at_places, exporters_of, named_by}
use Rattle.fx_machine.specs.Steps.{coming_to, acts_of_arrival}
use Rattle.fx_tables.specs.Ranks.{IsNetwork}
use Rattle.fx_leaf.specs.declared.verdict.Fate.{Fate}
use Rattle.fx_leaf.specs.declared.verdict.Fate.TheVariants.{Never}
use Rattle.fx_leaf.specs.Fates.{both}
use Rattle.fx_leaf.specs.Tables.{Numbering, Numbers, Tables, AreTables, number_of_layout}
use Rattle.fx_leaf.proofs.FateLaws.{Every}
use Rattle.fx_leaf.proofs.Verdicts.{both_never, never_both}
use Rattle.fx_steps.specs.declared.pending.Pending.{Pending}
use Rattle.fx_steps.specs.declared.pending.Pending.TheVariants.{AtHolder, OnLink}
use Rattle.fx_steps.specs.Building.{Spreads}
use Rattle.fx_machine.specs.Limits.{step_limit}
use Rattle.fx_steps.specs.Costs.{cost_of, both_costs}
use Rattle.fx_steps.specs.Spread.{shares}
use Rattle.fx_tables.specs.Runnable.{IsHolder, IsRunnable}
use Rattle.fx_steps.specs.Ways.{acts, tally_fate}
use Rattle.fx_steps.proofs.WholeNetworks.{whole, IsWhole, HasLinks, HasHolders}
use Rattle.fx_steps.proofs.CostsTell.{cost_next}
use Rattle.fx_steps.proofs.FilledTables.{all_at, all_at_places, table_tells}
use Rattle.fx_steps.proofs.HowWaysBegin.{Of}
use Rattle.fx_steps.proofs.SharesCost.{pick_is, alone}
use Rattle.fx_steps.proofs.EntriesTell.{HasCostsAt, GoodBy, GoodIn, entry_tells}

module _ (net : Net) (n : Numbering) (fields : Fields) (network : IsNetwork net) (numbers : Numbers net n)
    (whole : IsWhole net) (table : CostTable) (fate_costs : (q : ℕ) → HasCostsAt net n fields network numbers table q)
  where
    links_at : (places : List ℕ) → AllByRecursion (HasLinks net) (at_places net.exporters places)
    links_at places = all_at_places (HasLinks net) net.exporters places whole.links

    good_at : (places : List ℕ) → Every (GoodBy net n fields network numbers table) (at_places net.exporters places)
    good_at places = each_good net n fields network numbers whole table fate_costs (at_places net.exporters places)
        (links_at places)

    good_in : (as' : List AggregationEntry) → AllByRecursion (λ (a : AggregationEntry). IsHolder net a.holder) as'
        → Every (λ (a : AggregationEntry). GoodIn net n fields network numbers table a.holder) as'
    good_in [] h = tt
    good_in (a ∷ as') h = ((h.0, good_at (named_by (slice_get net.holders a.holder))), good_in as' h.1)

    -- ---- a record leaves a holder

    pub holder_steps : (holder : ℕ) (f : Fate) → IsHolder net holder → cost_of (holder_costs table net n holder) f
        ≤ step_limit → Steps table net n fields (AtHolder holder f)
    holder_steps holder f is le =
        let es = exporters_of net (slice_get net.holders holder) in
        let number = number_of_layout n holder in
        let e = cost_next (sent_costs table net number es) f in
        let small : cost_of (sent_costs table net number es) f ≤ step_limit = omega arith in
        let m = sends_meet table net n fields number es f small in
        record {
          spreads = leaving_spreads table net n fields network numbers holder f is.there
              (links_at (named_by (slice_get net.holders holder))) small;
          cost = let k = m.cost in omega arith;
          fate = never_both (total_fate (sent_pending table net number es f)) ∙ m.fate;
        }

    -- ---- a record leaves a link

    module _ (number : ℕ) (layout : Layout) (is : slice_get n.layouts number ≡ Some layout) (fits : Fits layout) where
      has_all : (q : ℕ) → HasAll table net n fields network numbers number layout is fits (slice_get net.processes q)
      has_all q = by (slice_get net.processes q) refl where
        by : (o : Option Process) → slice_get net.processes q ≡ o
            → HasAll table net n fields network numbers number layout is fits o
        by None e = tt
        by (Some p) e = (links_at p.exporters, all_at (HasHolders net) net.processes q p whole.aggregations e)

      -- an entry tells of the same ways as the costs from the table as it is
      entry_is : (q : ℕ) (f : Fate) → cost_of (cost_entry table q number) f ≤ step_limit
          → cost_of (cost_entry table q number) f ≡ cost_of (cost_entry_from table net n fields q number layout) f
      entry_is q f le =
          same_cost (Of net (acts (coming_to net (key_of layout fields) q))) (cost_entry table q number)
          (cost_entry_from table net n fields q number layout) f (fate_costs q number layout is fits)
          (entry_tells net n fields network numbers table number layout is fits q
          (λ p e. (
            good_at p.exporters,
            good_in p.aggregations
                (all_at (HasHolders net) net.processes q p whole.aggregations e),
          ))) le

      keys_come : (q : ℕ) → keys_fate net (arrival_keys net fields layout (Some q))
          ≡ tally_comes table net n fields network numbers number layout is fits q
      keys_come q =
          elim (q == net.report) as (λ b. keys_fate net (cond b (key_of layout fields ∷ []) [])
          ≡ cond b (tally_fate net (key_of layout fields)) Never) [
            | true ↦ both_never (tally_fate net (key_of layout fields))
            | false ↦ refl
          ]

      -- what comes of a record that arrives at a collecting process
      pub record Comes (o : Option ℕ) (f : Fate) : Type 0 where
        pub spreads : Spreads net (acts (acts_of_arrival net (key_of layout fields) o))
            (arrival_choices table net n fields number layout o f)
            (pending_items net n fields (arrival_pending table net n fields number layout o f))
            (arrival_keys net fields layout o)
        pub cost : total_cost table net n (arrival_pending table net n fields number layout o f)
            ≡ cost_of (process_costs table number o) f
        pub fate : both (keys_fate net (arrival_keys net fields layout o))
            (total_fate (arrival_pending table net n fields number layout o f)) ≡ f

      arrival_comes : (o : Option ℕ) (f : Fate) → cost_of (process_costs table number o) f ≤ step_limit → Comes o f
      arrival_comes None f le = let a = alone f le in
          record { spreads = Spreads.no_act; cost = sym a.1; fate = sym a.0 }
      arrival_comes (Some q) f le =
          let o = slice_get net.processes q in
          let a = tally_costs net layout q in
          let b = handled_costs table net n fields number layout o in
          let e = entry_is q f le in
          let small : cost_of (both_costs a b) f ≤ step_limit = omega arith in
          let p = pick_is a b f small in
          let t = tally_is table net n fields network numbers number layout is fits q (shares a b f).0 p.first in
          let m = handles_meet table net n fields number layout o (shares a b f).1 p.second in
          record {
            spreads = coming_spreads table net n fields network numbers number layout is fits q (shares a b f).1
                (has_all q) p.second;
            cost = let k = m.cost in let z = t.1 in let s = p.sum in omega arith;
            fate = ap₂ both (keys_come q ∙ sym t.0) m.fate ∙ p.fate;
          }

      link_comes : (link : ℕ) (f : Fate) → cost_of (destination_costs table net number (Some link)) f ≤ step_limit
          → Comes (slice_get net.links link) f × (suc
          (cost_of (process_costs table number (slice_get net.links link)) f)
          ≡ cost_of (destination_costs table net number (Some link)) f)
      link_comes link f le =
          let e = cost_next (process_costs table number (slice_get net.links link)) f in (
            arrival_comes (slice_get net.links link) f
                (let k : cost_of (process_costs table number (slice_get net.links link)) f ≤ step_limit = omega arith in
                k),
            omega arith,
          )

    pub link_steps : (link number : ℕ) (f : Fate) (layout : Layout) → slice_get n.layouts number ≡ Some layout
        → Fits layout → cost_of (destination_costs table net number (Some link)) f ≤ step_limit
        → Steps table net n fields (OnLink link number f)
    link_steps link number f layout is fits le =
        let x = link_comes number layout is fits link f le in
        let same : layout ≡ layout_in (slice_get n.layouts number) = sym (ap layout_in is) in
        let o = slice_get net.links link in
        record {
          spreads = subst (λ (l : Layout). Spreads net (acts (acts_of_arrival net (key_of l fields) o))
              (arrival_choices table net n fields number l o f)
              (pending_items net n fields (arrival_pending table net n fields number l o f))
              (arrival_keys net fields l o)) same x.0.spreads;
          cost = ap (λ (l : Layout). suc (total_cost table net n (arrival_pending table net n fields number l o f)))
              (sym same) ∙ ap suc x.0.cost ∙ x.1;
          fate = ap (λ (l : Layout). both (keys_fate net (arrival_keys net fields l o))
              (total_fate (arrival_pending table net n fields number l o f))) (sym same) ∙ x.0.fate;
        }

    pub steps : (x : Pending) → IsThere net n x → pending_cost table net n x ≤ step_limit → Steps table net n fields x
    steps (AtHolder holder f) is le = holder_steps holder f is le
    steps (OnLink link number f) is le = link_steps link number f is.1.0 is.1.1 is.1.2 le

pub each_steps : (t : Tables) (are : AreTables t) → IsRunnable t.net → (fields : Fields) (table : CostTable)
    → length table ≡ length t.net.processes → (x : Pending) → IsThere t.net t.numbering x
    → pending_cost (cost_fill t.net t.numbering fields t.order table) t.net t.numbering x ≤ step_limit
    → Steps (cost_fill t.net t.numbering fields t.order table) t.net t.numbering fields x
each_steps t are runs fields table size x is le =
    steps t.net t.numbering fields are.network are.numbers (whole t.net runs)
    (cost_fill t.net t.numbering fields t.order table) (table_tells t are (whole t.net runs) fields table size) x is
    le

pub each_crosses : (t : Tables) (are : AreTables t) → IsRunnable t.net → (fields : Fields) (table : CostTable)
    → length table ≡ length t.net.processes → (c : Crossing) (f : Fate)
    → cost_of (occurrence_costs (cost_fill t.net t.numbering fields t.order table) t.net t.numbering
    (occurrences t.net c fields)) f ≤ step_limit
    → Crosses (cost_fill t.net t.numbering fields t.order table) t.net t.numbering fields c f
each_crosses t are runs fields table size c f le =
    let filled = cost_fill t.net t.numbering fields t.order table in
    let os = occurrences t.net c fields in
    let m = meets_meet filled t.net t.numbering fields os f le in
    record {
      spreads = meets_spread filled t.net t.numbering fields are.network are.numbers os f
          (caches_met t.net t.numbering fields are.network are.numbers (whole t.net runs) filled
          (table_tells t are (whole t.net runs) fields table size) c);
      cost = m.cost;
      fate = m.fate;
    }
