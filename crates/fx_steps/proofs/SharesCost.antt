-- What is shared out costs what was wanted, and comes to it.
use Rattle.std.proofs.Common.{◌≡◌, inl, inr, ℕ, suc, ◌+◌, ◌<◌, ◌≤◌, min, true, false, cond, ◌==◌, List, [], ◌∷◌, ◌++◌, length, Option, Some, None, IfSome, refl, sym, ap, ap₂, ◌∙◌, subst, arith, eq-eqb, eqb-true, slice_get, drop, get_or, if◌then◌else◌}
use Rattle.std.specs.List.{AllByRecursion}
use Rattle.fx_layout.specs.Keys.{Key}
use Rattle.fx_machine.specs.Acts.{Send}
use Rattle.fx_tables.specs.Network.{Net, Exporter}
use Rattle.fx_leaf.specs.declared.verdict.Fate.{Fate}
use Rattle.fx_leaf.specs.declared.verdict.Fate.TheVariants.{Never, Once, Many, Differing, Unassigned}
use Rattle.fx_leaf.specs.Fates.{both}
use Rattle.fx_leaf.proofs.Verdicts.{both_assoc, both_never, never_both}
use Rattle.fx_steps.specs.declared.costs.Costs.{Costs}
use Rattle.fx_machine.specs.Limits.{step_limit}
use Rattle.fx_steps.specs.Costs.{over_limit, limited_sum, cost_of, pairs, both_cost, both_costs, costs_of_never, costs_of_no_way}
use Rattle.fx_steps.specs.CostTables.{CostTable, destination_costs, all_destinations_costs, one_destination_costs, send_costs}
use Rattle.fx_steps.specs.Building.{Spreads}
use Rattle.fx_steps.specs.Spread.{SentRecord, first_pair, shares, records_to_destination, records_to_all, cheapest_place, records_to_one, choice_of, choices_by_exporter, records_by_exporter, records_cost, joint_fate, items_of}
use Rattle.fx_steps.specs.Ways.{one, to}
use Rattle.fx_steps.proofs.FilledTables.{all_at}
use Rattle.fx_steps.proofs.CostsTell.{Among, least_at, pair_is, cost_both, cost_either, smaller}

-- it isn't the first of them
pub data InRest (g h : Fate) (ps : List (Fate × Fate)) : Type 0 where
  in_rest : Among g h ps → InRest g h ps

not_first : (p : Fate × Fate) (ps : List (Fate × Fate)) (g h : Fate) → Among g h (p ∷ ps) → (p.0 ≡ g → p.1 ≡ h → ⊥)
    → InRest g h ps
not_first p ps g h (inl (a, b)) none = absurd (none a b)
not_first p ps g h (inr j) none = in_rest j

module _ (v : Fate × Fate → ℕ) where
  -- the first pair, or one of the rest
  pub first_or_later : (ps : List (Fate × Fate)) (n : ℕ) (later : Fate × Fate) → 1 ≤ length ps → later
      ≡ first_pair v (drop 1 ps) n → (if v (get_or ps 0 (Never, Never)) == n then get_or ps 0 (Never, Never) else later)
      ≡ first_pair v ps n
  first_or_later [] n later some e = absurd (omega arith)
  first_or_later (p ∷ ps) n later some e = ap (λ (l : Fate × Fate). if v p == n then p else l) e

  -- what is picked has the cost, where some pair has it
  picked : (ps : List (Fate × Fate)) (n : ℕ) (g h : Fate) → Among g h ps → v (g, h) ≡ n
      → Among (first_pair v ps n).0 (first_pair v ps n).1 ps × (v (first_pair v ps n) ≡ n)
  picked [] n g h i e = absurd i
  picked (p ∷ ps) n g h i e =
      let rest : Among g h ps → Among (first_pair v ps n).0 (first_pair v ps n).1 ps × (v (first_pair v ps n) ≡ n) =
      λ j. picked ps n g h j e in
      elim (v p == n) as (λ b. (v p == n) ≡ b
      → Among (cond b p (first_pair v ps n)).0 (cond b p (first_pair v ps n)).1 (p ∷ ps)
      × (v (cond b p (first_pair v ps n)) ≡ n)) [
        | true ↦ λ t. (inl (refl, refl), eqb-true (v p) n t)
        | false ↦ λ t. elim (not_first p ps g h i (λ a b. not_here p a b t))
            as (λ j. Among (first_pair v ps n).0 (first_pair v ps n).1 (p ∷ ps) × (v (first_pair v ps n) ≡ n))
            [ in_rest j ↦ (inr (rest j).0, (rest j).1) ]
      ] refl
    where
      not_here : (p : Fate × Fate) → p.0 ≡ g → p.1 ≡ h → (v p == n) ≡ false → ⊥
      not_here p a b t = let same : v p ≡ n = ap₂ (λ (x y : Fate). v (x, y)) a b ∙ e in let yes = eq-eqb (v p) n same in
          absurd (cc)

-- ---- two parts

pub record Picked (a b : Costs) (f : Fate) : Type 0 where
  pub fate : both (shares a b f).0 (shares a b f).1 ≡ f
  pub first : cost_of a (shares a b f).0 ≤ step_limit
  pub second : cost_of b (shares a b f).1 ≤ step_limit
  pub sum : cost_of a (shares a b f).0 + cost_of b (shares a b f).1 ≡ cost_of (both_costs a b) f

pub pick_is : (a b : Costs) (f : Fate) → cost_of (both_costs a b) f ≤ step_limit → Picked a b f
pick_is a b f le =
    let e = cost_both a b f in
    let small : both_cost a b f ≤ step_limit = omega arith in
    let k = least_at (λ (p : Fate × Fate). limited_sum (cost_of a p.0) (cost_of b p.1)) (pairs f) small in
    let x = picked (λ (p : Fate × Fate). limited_sum (cost_of a p.0) (cost_of b p.1)) (pairs f) (both_cost a b f) k.0
    k.1 k.2 k.3 in
    let s : limited_sum (cost_of a (shares a b f).0) (cost_of b (shares a b f).1) ≡ both_cost a b f = x.1 in
    record {
      fate = pair_is f (shares a b f).0 (shares a b f).1 x.0;
      first = omega arith;
      second = omega arith;
      sum = omega arith;
    }

-- ---- destinations

-- nothing comes to never alone, in no step
pub alone : (f : Fate) → cost_of costs_of_never f ≤ step_limit → (f ≡ Never) × (cost_of costs_of_never f ≡ 0)
alone Never le = (refl, refl)
alone Once le = absurd (omega arith)
alone Many le = absurd (omega arith)
alone Unassigned le = absurd (omega arith)
alone Differing le = absurd (omega arith)

module _ (table : CostTable) (net : Net) (number : ℕ) where
  -- what is shared out comes to the fate, at its cost
  pub record Shared (xs : List SentRecord) (f : Fate) (n : ℕ) : Type 0 where
    pub cost : records_cost table net number xs ≡ n
    pub fate : joint_fate xs ≡ f

  on_shared : (d : Option ℕ) (f : Fate) → cost_of (destination_costs table net number d) f ≤ step_limit
      → Shared (records_to_destination d f) f (cost_of (destination_costs table net number d) f)
  on_shared None f le = let a = alone f le in record { cost = sym a.1; fate = sym a.0 }
  on_shared (Some link) f le = record {
    cost = let e : cost_of (destination_costs table net number (Some link)) f + 0
        ≡ cost_of (destination_costs table net number (Some link)) f = omega arith in e;
    fate = both_never f;
  }

  cost_append : (xs ys : List SentRecord) → records_cost table net number (xs ++ ys) ≡ records_cost table net number xs
      + records_cost table net number ys
  cost_append [] ys = omega arith
  cost_append (x ∷ xs) ys = let h = cost_append xs ys in omega arith

  joint_append : (xs ys : List SentRecord) → joint_fate (xs ++ ys) ≡ both (joint_fate xs) (joint_fate ys)
  joint_append [] ys = sym (never_both (joint_fate ys))
  joint_append (x ∷ xs) ys = ap (both x.fate) (joint_append xs ys)
      ∙ sym (both_assoc x.fate (joint_fate xs) (joint_fate ys))

  pub both_shared : (xs ys : List SentRecord) (a b : Costs) (f : Fate) (p : Picked a b f)
      → Shared xs (shares a b f).0 (cost_of a (shares a b f).0)
      → Shared ys (shares a b f).1 (cost_of b (shares a b f).1) → Shared (xs ++ ys) f (cost_of (both_costs a b) f)
  both_shared xs ys a b f p s t = record {
    cost = let e = cost_append xs ys in let c = s.cost in let d = t.cost in let k = p.sum in omega arith;
    fate = joint_append xs ys ∙ ap₂ both s.fate t.fate ∙ p.fate;
  }

  pub to_shared : (ds : List (Option ℕ)) (f : Fate) → cost_of (all_destinations_costs table net number ds) f
      ≤ step_limit → Shared (records_to_all table net number ds f) f
      (cost_of (all_destinations_costs table net number ds) f)
  to_shared [] f le = let a = alone f le in record { cost = sym a.1; fate = sym a.0 }
  to_shared (d ∷ ds) f le =
      let a = destination_costs table net number d in
      let b = all_destinations_costs table net number ds in
      let p = pick_is a b f le in
      both_shared (records_to_destination d (shares a b f).0) (records_to_all table net number ds (shares a b f).1) a b
      f p (on_shared d (shares a b f).0 p.first) (to_shared ds (shares a b f).1 p.second)

  -- ---- a choice

  pub record Chosen (ds : List (Option ℕ)) (f : Fate) (n k : ℕ) : Type 0 where
    pub d : Option ℕ
    pub at : slice_get ds k ≡ Some d
    pub cost : cost_of (destination_costs table net number d) f ≡ n

  no_way_cost : (f : Fate) → cost_of costs_of_no_way f ≡ over_limit
  no_way_cost Never = refl
  no_way_cost Once = refl
  no_way_cost Many = refl
  no_way_cost Unassigned = refl
  no_way_cost Differing = refl

  pub cheapest_is : (ds : List (Option ℕ)) (f : Fate) (n : ℕ) → n ≤ step_limit
      → cost_of (one_destination_costs table net number ds) f ≡ n
      → Chosen ds f n (cheapest_place table net number ds f n)
  cheapest_is [] f n le e = absurd (let o = no_way_cost f in omega arith)
  cheapest_is (d ∷ ds) f n le e =
      let own = cost_of (destination_costs table net number d) f in
      let others = cost_of (one_destination_costs table net number ds) f in
      let m = cost_either (destination_costs table net number d) (one_destination_costs table net number ds) f in
      let rest : others ≡ n → Chosen ds f n (cheapest_place table net number ds f n) = cheapest_is ds f n le in
      elim (own == n) as (λ b. (own == n) ≡ b
      → Chosen (d ∷ ds) f n (cond b 0 (suc (cheapest_place table net number ds f n)))) [
        | true ↦ λ t. record { d = d; at = refl; cost = eqb-true own n t }
        | false ↦ λ t. later ds d f n (rest (other own others n (sym m ∙ e) t))
      ] refl
    where
      other : (a b n : ℕ) → min a b ≡ n → (a == n) ≡ false → b ≡ n
      other a b n h t = elim (smaller a b) [
        | inl x ↦ absurd (let yes = eq-eqb a n (sym x ∙ h) in cc)
        | inr x ↦ sym x ∙ h
      ]

      later : (ds : List (Option ℕ)) (d : Option ℕ) (f : Fate) (n : ℕ)
          → Chosen ds f n (cheapest_place table net number ds f n)
          → Chosen (d ∷ ds) f n (suc (cheapest_place table net number ds f n))
      later ds d f n c = record { d = c.d; at = c.at; cost = c.cost }

  chosen_shared : (ds : List (Option ℕ)) (f : Fate) (n k : ℕ) → n ≤ step_limit → Chosen ds f n k
      → Shared (records_to_one (slice_get ds k) f) f n
  chosen_shared ds f n k le c =
      let s = on_shared c.d f (let e = c.cost in omega arith) in
      subst (λ o. Shared (records_to_one o f) f n) (sym c.at) (record { cost = s.cost ∙ c.cost; fate = s.fate })

  pub by_shared : (e : Exporter) (f : Fate) → cost_of (send_costs table net number e) f ≤ step_limit
      → Shared (records_by_exporter table net number e f) f (cost_of (send_costs table net number e) f)
  by_shared e f =
      let ds = e.destinations in
      elim e.parallel as (λ b. cost_of (cond b (all_destinations_costs table net number ds)
      (one_destination_costs table net number ds)) f ≤ step_limit
      → Shared (cond b (records_to_all table net number ds f)
      (records_to_one (slice_get ds (choice_of table net number ds f)) f)) f
      (cost_of (cond b (all_destinations_costs table net number ds) (one_destination_costs table net number ds)) f)) [
        | true ↦ λ le. to_shared ds f le
        | false ↦ λ le. chosen_shared ds f (cost_of (one_destination_costs table net number ds) f)
            (choice_of table net number ds f) le (cheapest_is ds f
            (cost_of (one_destination_costs table net number ds) f) le refl)
      ]

  -- ---- it may be done so

  abbrev pub InRange : Option ℕ → Type 0
  InRange d = IfSome d (λ link. link < length net.links)

  pub to_spreads : (key : Key) (ds : List (Option ℕ)) (f : Fate) → AllByRecursion InRange ds
      → Spreads net (to key ds) [] (items_of key (records_to_all table net number ds f)) []
  to_spreads key [] f all = Spreads.no_destination key
  to_spreads key (None ∷ ds) f all = Spreads.to_outside key ds
      (items_of key (records_to_all table net number ds
      (shares (destination_costs table net number None) (all_destinations_costs table net number ds) f).1))
      (to_spreads key ds (shares (destination_costs table net number None) (all_destinations_costs table net number ds)
      f).1 all.1)
  to_spreads key (Some link ∷ ds) f all =
      Spreads.to_link key link ds (items_of key
      (records_to_all table net number ds (shares (destination_costs table net number (Some link))
      (all_destinations_costs table net number ds) f).1)) all.0
      (to_spreads key ds (shares (destination_costs table net number (Some link))
      (all_destinations_costs table net number ds) f).1 all.1)

  one_spreads : (key : Key) (d : Option ℕ) (f : Fate) → InRange d
      → Spreads net (to key (d ∷ [])) [] (items_of key (records_to_destination d f)) []
  one_spreads key None f h = Spreads.to_outside key [] [] (Spreads.no_destination key)
  one_spreads key (Some link) f h = Spreads.to_link key link [] [] h (Spreads.no_destination key)

  chosen_spreads : (e : Exporter) (key : Key) (f : Fate) (n k : ℕ) → e.parallel ≡ false
      → AllByRecursion InRange e.destinations → Chosen e.destinations f n k
      → Spreads net (one (Send e key)) (Some (suc k) ∷ [])
      (items_of key (records_to_one (slice_get e.destinations k) f)) []
  chosen_spreads e key f n k p links c =
      subst (λ o. Spreads net (one (Send e key)) (Some (suc k) ∷ []) (items_of key (records_to_one o f)) []) (sym c.at)
      (Spreads.to_any e key (suc k) c.d (items_of key (records_to_destination c.d f)) p c.at
      (one_spreads key c.d f (all_at InRange e.destinations k c.d links c.at)))

  pub by_spreads : (e : Exporter) (key : Key) (f : Fate) → AllByRecursion InRange e.destinations
      → cost_of (send_costs table net number e) f ≤ step_limit
      → Spreads net (one (Send e key)) (choices_by_exporter table net number e f)
      (items_of key (records_by_exporter table net number e f)) []
  by_spreads e key f links =
      let ds = e.destinations in
      elim e.parallel as (λ b. e.parallel ≡ b
      → cost_of (cond b (all_destinations_costs table net number ds) (one_destination_costs table net number ds)) f
      ≤ step_limit → Spreads net (one (Send e key)) (cond b [] (Some (suc (choice_of table net number ds f)) ∷ []))
      (items_of key (cond b (records_to_all table net number ds f)
      (records_to_one (slice_get ds (choice_of table net number ds f)) f))) []) [
        | true ↦ λ p le. Spreads.to_all e key (items_of key (records_to_all table net number ds f)) p
            (to_spreads key ds f links)
        | false ↦ λ p le. chosen_spreads e key f (cost_of (one_destination_costs table net number ds) f)
            (choice_of table net number ds f) p links
            (cheapest_is ds f (cost_of (one_destination_costs table net number ds) f) le refl)
      ] refl
