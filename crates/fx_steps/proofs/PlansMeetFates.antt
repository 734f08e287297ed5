-- What is planned for a step costs what was wanted, comes to it, and may be done.
use Rattle.std.proofs.Common.{◌≡◌, ℕ, ◌+◌, ◌≤◌, true, false, cond, List, [], ◌∷◌, ◌++◌, map, append_assoc, Option, Some, None, refl, sym, ap, ap₂, ◌∙◌, subst, arith, slice_get}
use Rattle.std.specs.List.{AllByRecursion}
use Rattle.fx_elements.specs.Axes.{Fields}
use Rattle.fx_layout.specs.Keys.{Layout, Key, key_of}
use Rattle.fx_machine.specs.Acts.{Choices, Send}
use Rattle.fx_tables.specs.Network.{Net, Exporter, AggregationEntry, Process, before, at_places, takes}
use Rattle.fx_tables.specs.declared.observation.Occurrence.{Occurrence}
use Rattle.fx_leaf.specs.declared.verdict.Fate.{Fate}
use Rattle.fx_leaf.specs.Fates.{both}
use Rattle.fx_leaf.specs.Tables.{Numbering}
use Rattle.fx_leaf.proofs.Verdicts.{both_assoc, both_never, never_both}
use Rattle.fx_steps.specs.declared.costs.Costs.{Costs}
use Rattle.fx_steps.specs.declared.pending.Pending.{Pending}
use Rattle.fx_steps.specs.declared.pending.Pending.TheVariants.{AtHolder}
use Rattle.fx_steps.specs.declared.pending.StepPlan.{StepPlan}
use Rattle.fx_steps.specs.Building.{Item, Carried, Spreads}
use Rattle.fx_machine.specs.Limits.{step_limit}
use Rattle.fx_steps.specs.Costs.{cost_of, both_costs, costs_of_never}
use Rattle.fx_steps.specs.CostTables.{CostTable, destination_costs, send_costs, sent_costs, holder_costs, all_taken_costs, handled_costs, occurrence_costs}
use Rattle.fx_steps.specs.Planning.{pending_on_links, sent_pending, sent_choices, first_pending, first_choices, fate_left_by, all_taken_pending, handled_pending, occurrence_pending, pending_fate, total_cost, total_fate, layout_in, item_of, pending_items, AddsPlan, all_taken_choices, handled_choices}
use Rattle.fx_steps.specs.Spread.{SentRecord, shares, records_by_exporter, choices_by_exporter, records_cost, joint_fate, items_of}
use Rattle.fx_steps.specs.Ways.{acts, one}
use Rattle.fx_steps.proofs.WholeNetworks.{HasLinks}
use Rattle.fx_steps.proofs.SharesCost.{Picked, pick_is, alone, Shared, by_shared, by_spreads}

-- ---- the code's way through exporting processes

module _ (table : CostTable) (net : Net) (number : ℕ) where
  first_then : (o : Option Exporter) (es : List Exporter) (f : Fate)
      → first_pending table net number o (sent_costs table net number es) f
      ++ sent_pending table net number es (fate_left_by table net number o (sent_costs table net number es) f)
      ≡ sent_pending table net number (before o es) f
  first_then None es f = refl
  first_then (Some e) es f = refl

  first_chosen : (o : Option Exporter) (es : List Exporter) (f : Fate)
      → first_choices table net number o (sent_costs table net number es) f
      ++ sent_choices table net number es (fate_left_by table net number o (sent_costs table net number es) f)
      ≡ sent_choices table net number (before o es) f
  first_chosen None es f = refl
  first_chosen (Some e) es f = refl

  pub then_sends : (o : Option Exporter) (es : List Exporter) (others : Costs) (f left : Fate)
      (old mid new : List Pending) → others ≡ sent_costs table net number es → left
      ≡ fate_left_by table net number o others f → mid ≡ old ++ first_pending table net number o others f → new ≡ mid
      ++ sent_pending table net number es left → new ≡ old ++ sent_pending table net number (before o es) f
  then_sends o es others f left old mid new c l m n =
      n ∙ ap₂ (λ (x : List Pending) (g : Fate). x ++ sent_pending table net number es g) m l
      ∙ append_assoc old (first_pending table net number o others f)
      (sent_pending table net number es (fate_left_by table net number o others f))
      ∙ ap (λ (k : Costs). old ++ (first_pending table net number o k f
      ++ sent_pending table net number es (fate_left_by table net number o k f))) c
      ∙ ap (λ (x : List Pending). old ++ x) (first_then o es f)

  pub then_chooses : (o : Option Exporter) (es : List Exporter) (others : Costs) (f left : Fate) (old mid new : Choices)
      → others ≡ sent_costs table net number es → left ≡ fate_left_by table net number o others f → mid ≡ old
      ++ first_choices table net number o others f → new ≡ mid ++ sent_choices table net number es left → new ≡ old
      ++ sent_choices table net number (before o es) f
  then_chooses o es others f left old mid new c l m n =
      n ∙ ap₂ (λ (x : Choices) (g : Fate). x ++ sent_choices table net number es g) m l
      ∙ append_assoc old (first_choices table net number o others f)
      (sent_choices table net number es (fate_left_by table net number o others f))
      ∙ ap (λ (k : Costs). old ++ (first_choices table net number o k f
      ++ sent_choices table net number es (fate_left_by table net number o k f))) c
      ∙ ap (λ (x : Choices). old ++ x) (first_chosen o es f)

-- ---- the code's way through a collecting process

adds_then : (old mid new : StepPlan) (xs ys : List Pending) (cs ds : Choices) → AddsPlan old mid xs cs
    → AddsPlan mid new ys ds → AddsPlan old new (xs ++ ys) (cs ++ ds)
adds_then old mid new xs ys cs ds x y = record {
  pending = y.pending ∙ ap (λ (zs : List Pending). zs ++ ys) x.pending ∙ append_assoc old.pending.items xs ys;
  choices = y.choices ∙ ap (λ (es : Choices). es ++ ds) x.choices ∙ append_assoc old.choices.items cs ds;
}

module _ (table : CostTable) (net : Net) (n : Numbering) (fields : Fields) (number : ℕ) (layout : Layout) (p : Process)
    (f : Fate) where
  pub then_takings : (old mid new : StepPlan) (key : Key) (q : Fate × Fate) (es : List ℕ) (as' : List AggregationEntry)
      → key ≡ key_of layout fields → es ≡ p.exporters → as' ≡ p.aggregations → q
      ≡ shares (sent_costs table net number (at_places net.exporters p.exporters))
      (all_taken_costs table net n key p.aggregations) f
      → AddsPlan old mid (sent_pending table net number (at_places net.exporters es) q.0)
      (sent_choices table net number (at_places net.exporters es) q.0)
      → AddsPlan mid new (all_taken_pending table net n key as' q.1) (all_taken_choices table net n key as')
      → AddsPlan old new (handled_pending table net n fields number layout (Some p) f)
      (handled_choices table net n fields number layout (Some p) f)
  then_takings old mid new key q es as' key_is es_are as_are q_is x y =
      let S : Key → Fate × Fate = λ k. shares (sent_costs table net number (at_places net.exporters p.exporters))
      (all_taken_costs table net n k p.aggregations) f in
      let So : List ℕ → List AggregationEntry → Fate × Fate → Key → Type 0 =
      λ ps bs r k. AddsPlan old new (sent_pending table net number (at_places net.exporters ps) r.0
      ++ all_taken_pending table net n k bs r.1)
      (sent_choices table net number (at_places net.exporters ps) r.0 ++ all_taken_choices table net n k bs) in
      let both_added : So es as' q key = adds_then old mid new _ _ _ _ x y in
      let exporters : So p.exporters as' q key = subst (λ (ps : List ℕ). So ps as' q key) es_are both_added in
      let aggregations : So p.exporters p.aggregations q key =
      subst (λ (bs : List AggregationEntry). So p.exporters bs q key) as_are exporters in
      let shared : So p.exporters p.aggregations (S key) key =
      subst (λ (r : Fate × Fate). So p.exporters p.aggregations r key) q_is aggregations in
      subst (λ (k : Key). So p.exporters p.aggregations (S k) k) key_is shared

-- ---- costs and fates

module _ (table : CostTable) (net : Net) (n : Numbering) (fields : Fields) where
  -- what is planned comes to the fate, at its cost
  pub record Meets (ps : List Pending) (f : Fate) (c : ℕ) : Type 0 where
    pub cost : total_cost table net n ps ≡ c
    pub fate : total_fate ps ≡ f

  links_cost : (number : ℕ) (xs : List SentRecord) → total_cost table net n (pending_on_links number xs)
      ≡ records_cost table net number xs
  links_cost number [] = refl
  links_cost number (x ∷ xs) = ap (λ c. cost_of (destination_costs table net number (Some x.link)) x.fate + c)
      (links_cost number xs)

  links_fate : (number : ℕ) (xs : List SentRecord) → total_fate (pending_on_links number xs) ≡ joint_fate xs
  links_fate number [] = refl
  links_fate number (x ∷ xs) = ap (both x.fate) (links_fate number xs)

  links_meet : (number : ℕ) (xs : List SentRecord) (f : Fate) (c : ℕ) → Shared table net number xs f c
      → Meets (pending_on_links number xs) f c
  links_meet number xs f c s = record { cost = links_cost number xs ∙ s.cost; fate = links_fate number xs ∙ s.fate }

  pub cost_joined : (xs ys : List Pending) → total_cost table net n (xs ++ ys) ≡ total_cost table net n xs
      + total_cost table net n ys
  cost_joined [] ys = omega arith
  cost_joined (x ∷ xs) ys = let h = cost_joined xs ys in omega arith

  pub fate_joined : (xs ys : List Pending) → total_fate (xs ++ ys) ≡ both (total_fate xs) (total_fate ys)
  fate_joined [] ys = sym (never_both (total_fate ys))
  fate_joined (x ∷ xs) ys = ap (both (pending_fate x)) (fate_joined xs ys)
      ∙ sym (both_assoc (pending_fate x) (total_fate xs) (total_fate ys))

  both_meet : (xs ys : List Pending) (a b : Costs) (f : Fate) (p : Picked a b f)
      → Meets xs (shares a b f).0 (cost_of a (shares a b f).0) → Meets ys (shares a b f).1 (cost_of b (shares a b f).1)
      → Meets (xs ++ ys) f (cost_of (both_costs a b) f)
  both_meet xs ys a b f p s t = record {
    cost = let e = cost_joined xs ys in let c = s.cost in let d = t.cost in let k = p.sum in omega arith;
    fate = fate_joined xs ys ∙ ap₂ both s.fate t.fate ∙ p.fate;
  }

  none_meet : (f : Fate) → cost_of costs_of_never f ≤ step_limit → Meets [] f (cost_of costs_of_never f)
  none_meet f le = let a = alone f le in record { cost = sym a.1; fate = sym a.0 }

  one_meets : (holder : ℕ) (f : Fate) → Meets (AtHolder holder f ∷ []) f (cost_of (holder_costs table net n holder) f)
  one_meets holder f = record {
    cost = let e : cost_of (holder_costs table net n holder) f + 0
        ≡ cost_of (holder_costs table net n holder) f = omega arith in e;
    fate = both_never f;
  }

  pub sends_meet : (number : ℕ) (es : List Exporter) (f : Fate) → cost_of (sent_costs table net number es) f
      ≤ step_limit → Meets (sent_pending table net number es f) f (cost_of (sent_costs table net number es) f)
  sends_meet number [] f le = none_meet f le
  sends_meet number (e ∷ es) f le =
      let a = send_costs table net number e in
      let b = sent_costs table net number es in
      let p = pick_is a b f le in
      let g = (shares a b f).0 in
      both_meet (pending_on_links number (records_by_exporter table net number e g))
      (sent_pending table net number es (shares a b f).1) a b f p
      (links_meet number (records_by_exporter table net number e g) g (cost_of a g)
      (by_shared table net number e g p.first)) (sends_meet number es (shares a b f).1 p.second)

  pub takings_meet : (key : Key) (as' : List AggregationEntry) (f : Fate)
      → cost_of (all_taken_costs table net n key as') f ≤ step_limit
      → Meets (all_taken_pending table net n key as' f) f (cost_of (all_taken_costs table net n key as') f)
  takings_meet key [] f = λ le. none_meet f le
  takings_meet key (a ∷ as') f =
      let h = holder_costs table net n a.holder in
      let b = all_taken_costs table net n key as' in
      let x = AtHolder a.holder (shares h b f).0 ∷ all_taken_pending table net n key as' (shares h b f).1 in
      elim (takes net key a) as (λ t. cost_of (cond t (both_costs h b) b) f ≤ step_limit
      → Meets (cond t x (all_taken_pending table net n key as' f)) f (cost_of (cond t (both_costs h b) b) f)) [
        | true ↦ λ le. let p = pick_is h b f le in
            both_meet (AtHolder a.holder (shares h b f).0 ∷ []) (all_taken_pending table net n key as' (shares h b f).1)
            h b f p (one_meets a.holder (shares h b f).0) (takings_meet key as' (shares h b f).1 p.second)
        | false ↦ λ le. takings_meet key as' f le
      ]

  pub handles_meet : (number : ℕ) (layout : Layout) (o : Option Process) (f : Fate)
      → cost_of (handled_costs table net n fields number layout o) f ≤ step_limit
      → Meets (handled_pending table net n fields number layout o f) f
      (cost_of (handled_costs table net n fields number layout o) f)
  handles_meet number layout None f le = none_meet f le
  handles_meet number layout (Some p) f le =
      let a = sent_costs table net number (at_places net.exporters p.exporters) in
      let b = all_taken_costs table net n (key_of layout fields) p.aggregations in
      let q = pick_is a b f le in
      both_meet (sent_pending table net number (at_places net.exporters p.exporters) (shares a b f).0)
      (all_taken_pending table net n (key_of layout fields) p.aggregations (shares a b f).1) a b f q
      (sends_meet number (at_places net.exporters p.exporters) (shares a b f).0 q.first)
      (takings_meet (key_of layout fields) p.aggregations (shares a b f).1 q.second)

  pub meets_meet : (os : List Occurrence) (f : Fate) → cost_of (occurrence_costs table net n os) f ≤ step_limit
      → Meets (occurrence_pending table net n os f) f (cost_of (occurrence_costs table net n os) f)
  meets_meet [] f le = none_meet f le
  meets_meet (o ∷ os) f le =
      let h = holder_costs table net n o.holder in
      let b = occurrence_costs table net n os in
      let p = pick_is h b f le in
      both_meet (AtHolder o.holder (shares h b f).0 ∷ []) (occurrence_pending table net n os (shares h b f).1) h b f p
      (one_meets o.holder (shares h b f).0) (meets_meet os (shares h b f).1 p.second)

  -- ---- they may be done so

  pub items_joined : (xs ys : List Pending) → pending_items net n fields (xs ++ ys) ≡ pending_items net n fields xs
      ++ pending_items net n fields ys
  items_joined [] ys = refl
  items_joined (x ∷ xs) ys = ap (λ is. item_of net n fields x ∷ is) (items_joined xs ys)

  abbrev pub key_at : ℕ → Key
  key_at number = key_of (layout_in (slice_get n.layouts number)) fields

  links_items : (number : ℕ) (xs : List SentRecord) → items_of (key_at number) xs
      ≡ pending_items net n fields (pending_on_links number xs)
  links_items number [] = refl
  links_items number (x ∷ xs) = ap (λ is. Carried x.link (key_at number) ∷ is) (links_items number xs)

  pub sends_spread : (number : ℕ) (es : List Exporter) (f : Fate) → AllByRecursion (HasLinks net) es
      → cost_of (sent_costs table net number es) f ≤ step_limit
      → Spreads net (acts (map (λ e. Send e (key_at number)) es)) (sent_choices table net number es f)
      (pending_items net n fields (sent_pending table net number es f)) []
  sends_spread number [] f all le = Spreads.no_act
  sends_spread number (e ∷ es) f all le =
      let a = send_costs table net number e in
      let b = sent_costs table net number es in
      let p = pick_is a b f le in
      let g = (shares a b f).0 in
      let key = key_at number in
      let xs = pending_on_links number (records_by_exporter table net number e g) in
      let ys = sent_pending table net number es (shares a b f).1 in
      let cs = choices_by_exporter table net number e g in
      let ds = sent_choices table net number es (shares a b f).1 in
      let one : Spreads net (one (Send e key)) cs (pending_items net n fields xs) [] =
      subst (λ (is : List Item). Spreads net (one (Send e key)) cs is [])
      (links_items number (records_by_exporter table net number e g))
      (by_spreads table net number e key g all.0 p.first) in
      let rest = sends_spread number es (shares a b f).1 all.1 p.second in
      subst (λ (is : List Item). Spreads net (acts (Send e key ∷ map (λ e. Send e key) es)) (cs ++ ds) is [])
      (sym (items_joined xs ys)) (Spreads.next_act (Send e key) (map (λ e. Send e key) es) cs ds
      (pending_items net n fields xs) (pending_items net n fields ys) [] [] one rest)
