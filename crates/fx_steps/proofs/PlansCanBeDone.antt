-- What is planned of records that come to a collecting process or to caches may be done.
use Rattle.std.proofs.Common.{◌≡◌, ℕ, ◌≤◌, ◌<◌, true, false, cond, ◌==◌, if◌then◌else◌, List, [], ◌∷◌, ◌++◌, map, filter, length, append_assoc, Option, Some, None, refl, sym, ap, subst, arith, slice_get}
use Rattle.std.specs.List.{AllByRecursion}
use Rattle.fx_elements.specs.Axes.{Fields}
use Rattle.fx_layout.specs.Keys.{Layout, Key, Fits, key_of, refines}
use Rattle.fx_machine.specs.Acts.{Choices, Act, Send, Hold, Tally}
use Rattle.fx_tables.specs.Network.{Net, AggregationEntry, Process, at_places, exporters_of, layout_of, takes}
use Rattle.fx_machine.specs.Steps.{acts_of_leaving, coming_to, acts_of, take_in, meet}
use Rattle.fx_tables.specs.Ranks.{IsNetwork}
use Rattle.fx_tables.specs.declared.observation.Occurrence.{Occurrence}
use Rattle.fx_leaf.specs.declared.verdict.Fate.{Fate}
use Rattle.fx_leaf.specs.declared.verdict.Fate.TheVariants.{Never, Once, Many, Differing, Unassigned}
use Rattle.fx_leaf.specs.Tables.{Numbering, Numbers, number_of_layout}
use Rattle.fx_leaf.proofs.FateLaws.{Every}
use Rattle.fx_steps.specs.declared.costs.Costs.{Costs}
use Rattle.fx_steps.specs.Building.{Item, Held, Spreads}
use Rattle.fx_machine.specs.Limits.{step_limit}
use Rattle.fx_steps.specs.Costs.{cost_of, costs_of_never, costs_of_once, costs_of_unassigned, Tells}
use Rattle.fx_steps.specs.CostTables.{CostTable, sent_costs, holder_costs, all_taken_costs, tally_costs, handled_costs, occurrence_costs}
use Rattle.fx_steps.specs.Planning.{sent_pending, sent_choices, all_taken_pending, all_taken_choices, handled_pending, handled_choices, occurrence_pending, occurrence_choices, layout_in, pending_items}
use Rattle.fx_steps.specs.declared.pending.Pending.TheVariants.{AtHolder}
use Rattle.fx_steps.specs.Spread.{shares}
use Rattle.fx_tables.specs.Runnable.{IsHolder}
use Rattle.fx_steps.specs.Ways.{acts, tally_fate}
use Rattle.fx_steps.proofs.WholeNetworks.{HasLinks}
use Rattle.fx_steps.proofs.SharesCost.{pick_is, alone}
use Rattle.fx_steps.proofs.PlansMeetFates.{sends_spread, items_joined}
use Rattle.fx_steps.proofs.EntriesTell.{taken_key, own_number}

-- ---- acts, one list behind the other

module _ (net : Net) where
  spread_is : (as' : List Act) (c d : Choices) (is js : List Item) (ks ls : List Key) → c ≡ d → is ≡ js → ks ≡ ls
      → Spreads net (acts as') c is ks → Spreads net (acts as') d js ls
  spread_is as' c d is js ks ls x y z s =
      subst (λ (k : List Key). Spreads net (acts as') d js k) z
      (subst (λ (i : List Item). Spreads net (acts as') d i ks) y
      (subst (λ (e : Choices). Spreads net (acts as') e is ks) x s))

  pub joined_spread : {as' : List Act} {c : Choices} {is : List Item} {ks : List Key} → Spreads net (acts as') c is ks
      → (bs : List Act) (d : Choices) (js : List Item) (ls : List Key) → Spreads net (acts bs) d js ls
      → Spreads net (acts (as' ++ bs)) (c ++ d) (is ++ js) (ks ++ ls)
  joined_spread Spreads.no_act bs d js ls s = s
  joined_spread (Spreads.next_act a as' c e is hs ks ms x y) bs d js ls s =
      spread_is (a ∷ (as' ++ bs)) (c ++ (e ++ d)) ((c ++ e) ++ d) (is ++ (hs ++ js)) ((is ++ hs) ++ js)
      (ks ++ (ms ++ ls)) ((ks ++ ms) ++ ls) (sym (append_assoc c e d)) (sym (append_assoc is hs js))
      (sym (append_assoc ks ms ls)) (Spreads.next_act a (as' ++ bs) c (e ++ d) is (hs ++ js) ks (ms ++ ls) x
      (joined_spread y bs d js ls s))

module _ (table : CostTable) (net : Net) (n : Numbering) (fields : Fields) (network : IsNetwork net)
    (numbers : Numbers net n) where
  -- ---- what caches take in

  pub meets_spread : (os : List Occurrence) (f : Fate) → Every (λ (o : Occurrence). IsHolder net o.holder) os
      → Spreads net (acts (map (meet net fields) os)) (occurrence_choices os)
      (pending_items net n fields (occurrence_pending table net n os f)) []
  meets_spread [] f all = Spreads.no_act
  meets_spread (o ∷ os) f all =
      let left = (shares (holder_costs table net n o.holder) (occurrence_costs table net n os) f).1 in
      let key = key_of (layout_of (slice_get net.holders o.holder)) fields in
      Spreads.next_act (Hold o.holder key) (map (meet net fields) os) (None ∷ []) (occurrence_choices os)
      (Held o.holder key ∷ []) (pending_items net n fields (occurrence_pending table net n os left)) [] []
      (Spreads.hold o.holder key all.0.there) (meets_spread os left all.1)

  -- ---- what leaves a holder

  pub leaving_spreads : (holder : ℕ) (f : Fate) → holder < length net.holders
      → AllByRecursion (HasLinks net) (exporters_of net (slice_get net.holders holder))
      → cost_of (sent_costs table net (number_of_layout n holder) (exporters_of net (slice_get net.holders holder))) f
      ≤ step_limit → Spreads net (acts (acts_of_leaving net holder
      (key_of (layout_of (slice_get net.holders holder)) fields)))
      (sent_choices table net (number_of_layout n holder) (exporters_of net (slice_get net.holders holder)) f)
      (pending_items net n fields (sent_pending table net (number_of_layout n holder)
      (exporters_of net (slice_get net.holders holder)) f)) []
  leaving_spreads holder f lt all le =
      let es = exporters_of net (slice_get net.holders holder) in
      let number = number_of_layout n holder in
      let same = ap (λ (o : Option Layout). key_of (layout_in o) fields)
      (own_number net n fields network numbers table holder lt) in
      subst (λ (key : Key). Spreads net (acts (map (λ e. Send e key) es)) (sent_choices table net number es f)
      (pending_items net n fields (sent_pending table net number es f)) []) same
      (sends_spread table net n fields number es f all le)

  -- ---- what comes to a collecting process

  module _ (number : ℕ) (layout : Layout) (is : slice_get n.layouts number ≡ Some layout) (fits : Fits layout) where
    abbrev here : Key
    here = key_of layout fields

    pub takings_spread : (as' : List AggregationEntry) (f : Fate)
        → AllByRecursion (λ (a : AggregationEntry). IsHolder net a.holder) as'
        → Spreads net (acts (map (take_in net here) (filter (takes net here) as')))
        (all_taken_choices table net n here as') (pending_items net n fields (all_taken_pending table net n here as' f))
        []
    takings_spread [] f all = Spreads.no_act
    takings_spread (a ∷ as') f all =
        let others = filter (takes net here) as' in
        let left = (shares (holder_costs table net n a.holder) (all_taken_costs table net n here as') f).1 in
        let g = (shares (holder_costs table net n a.holder) (all_taken_costs table net n here as') f).0 in
        let cs = all_taken_choices table net n here as' in
        let key = key_of (layout_of (slice_get net.holders a.holder)) fields in
        let items = pending_items net n fields (all_taken_pending table net n here as' left) in
        elim (takes net here a) as (λ b. takes net here a ≡ b
        → Spreads net (acts (map (take_in net here) (cond b (a ∷ others) others))) (cond b (None ∷ cs) cs)
        (pending_items net n fields (cond b (AtHolder a.holder g ∷ all_taken_pending table net n here as' left)
        (all_taken_pending table net n here as' f))) []) [
          | true ↦ λ t. subst (λ (x : Act). Spreads net (acts (x ∷ map (take_in net here) others)) (None ∷ cs)
              (Held a.holder key ∷ items) []) (sym (taken_key net n fields network numbers table number layout is fits a
              t)) (Spreads.next_act (Hold a.holder key) (map (take_in net here) others) (None ∷ []) cs
              (Held a.holder key ∷ []) items [] [] (Spreads.hold a.holder key all.0.there)
              (takings_spread as' left all.1))
          | false ↦ λ t. takings_spread as' f all.1
        ] refl

    -- all that it names is there
    abbrev pub HasAll : Option Process → Type 0
    HasAll None = Unit {0}
    HasAll (Some p) = AllByRecursion (HasLinks net) (at_places net.exporters p.exporters)
        × AllByRecursion (λ (a : AggregationEntry). IsHolder net a.holder) p.aggregations

    pub handles_spread : (o : Option Process) (f : Fate) → HasAll o
        → cost_of (handled_costs table net n fields number layout o) f ≤ step_limit
        → Spreads net (acts (acts_of net here o)) (handled_choices table net n fields number layout o f)
        (pending_items net n fields (handled_pending table net n fields number layout o f)) []
    handles_spread None f all le = Spreads.no_act
    handles_spread (Some p) f all le =
        let es = at_places net.exporters p.exporters in
        let a = sent_costs table net number es in
        let b = all_taken_costs table net n here p.aggregations in
        let q = pick_is a b f le in
        let g = (shares a b f).0 in
        let left = (shares a b f).1 in
        let cs = sent_choices table net number es g in
        let ds = all_taken_choices table net n here p.aggregations in
        let xs = sent_pending table net number es g in
        let ys = all_taken_pending table net n here p.aggregations left in
        let acts' = map (take_in net here) (filter (takes net here) p.aggregations) in
        let same = ap (λ (o : Option Layout). key_of (layout_in o) fields) is in
        let first = subst (λ (key : Key). Spreads net (acts (map (λ e. Send e key) es)) cs
        (pending_items net n fields xs) []) same (sends_spread table net n fields number es g all.0 q.first) in
        subst (λ (i : List Item). Spreads net (acts (map (λ e. Send e here) es ++ acts')) (cs ++ ds) i [])
        (sym (items_joined table net n fields xs ys))
        (joined_spread net first acts' ds (pending_items net n fields ys) []
        (takings_spread p.aggregations left all.1))

    -- the key is tallied at the report
    abbrev pub tally_keys : ℕ → List Key
    tally_keys process = if process == net.report then here ∷ [] else []

    pub coming_spreads : (process : ℕ) (f : Fate) → HasAll (slice_get net.processes process)
        → cost_of (handled_costs table net n fields number layout (slice_get net.processes process)) f ≤ step_limit
        → Spreads net (acts (coming_to net here process))
        (handled_choices table net n fields number layout (slice_get net.processes process) f)
        (pending_items net n fields (handled_pending table net n fields number layout (slice_get net.processes process)
        f)) (tally_keys process)
    coming_spreads process f all le =
        let o = slice_get net.processes process in
        let cs = handled_choices table net n fields number layout o f in
        let items = pending_items net n fields (handled_pending table net n fields number layout o f) in
        let rest = handles_spread o f all le in
        elim (process == net.report) as (λ b. Spreads net (acts (cond b (Tally here ∷ []) [] ++ acts_of net here o)) cs
        items (cond b (here ∷ []) [])) [
          | true ↦ Spreads.next_act (Tally here) (acts_of net here o) [] cs [] items (here ∷ []) [] (Spreads.tally here)
              rest
          | false ↦ rest
        ]

    -- ---- what is tallied costs nothing, and comes to one fate

    abbrev pub tally_comes : ℕ → Fate
    tally_comes process = if process == net.report then tally_fate net here else Never

    counted_alone : (f : Fate) → cost_of costs_of_once f ≤ step_limit → (f ≡ Once) × (cost_of costs_of_once f ≡ 0)
    counted_alone Never le = absurd (omega arith)
    counted_alone Once le = (refl, refl)
    counted_alone Many le = absurd (omega arith)
    counted_alone Unassigned le = absurd (omega arith)
    counted_alone Differing le = absurd (omega arith)

    lost_alone : (f : Fate) → cost_of costs_of_unassigned f ≤ step_limit → (f ≡ Unassigned)
        × (cost_of costs_of_unassigned f ≡ 0)
    lost_alone Never le = absurd (omega arith)
    lost_alone Once le = absurd (omega arith)
    lost_alone Many le = absurd (omega arith)
    lost_alone Unassigned le = (refl, refl)
    lost_alone Differing le = absurd (omega arith)

    pub tally_is : (process : ℕ) (f : Fate) → cost_of (tally_costs net layout process) f ≤ step_limit
        → (f ≡ tally_comes process) × (cost_of (tally_costs net layout process) f ≡ 0)
    tally_is process f =
        let r = refines layout net.report_layout in
        elim (process == net.report) as (λ b. cost_of (cond b (cond r costs_of_once costs_of_unassigned) costs_of_never)
        f ≤ step_limit → (f ≡ cond b (cond r Once Unassigned) Never)
        × (cost_of (cond b (cond r costs_of_once costs_of_unassigned) costs_of_never) f ≡ 0)) [
          | true ↦ elim (refines layout net.report_layout)
              as (λ r. cost_of (cond r costs_of_once costs_of_unassigned) f ≤ step_limit → (f ≡ cond r Once Unassigned)
              × (cost_of (cond r costs_of_once costs_of_unassigned) f ≡ 0)) [
                | true ↦ λ le. counted_alone f le
                | false ↦ λ le. lost_alone f le
              ]
          | false ↦ λ le. alone f le
        ]

-- ---- two costs that tell of the same ways are the same within the limit

pub same_cost : (C : Fate → ℕ → Type 0) (a b : Costs) (f : Fate) → Tells a C → Tells b C → cost_of a f ≤ step_limit
    → cost_of a f ≡ cost_of b f
same_cost C a b f ta tb le =
    let x = tb.least f (cost_of a f) (ta.reached f le) in
    let y = ta.least f (cost_of b f) (tb.reached f (let k : cost_of b f ≤ step_limit = omega arith in k)) in
    omega arith
