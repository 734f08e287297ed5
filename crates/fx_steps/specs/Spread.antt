-- How a required fate is distributed over the records that result from a step.
use Rattle.std.specs.Prelude.{ℕ, suc, ◌+◌, ◌==◌, List, [], ◌∷◌, ◌++◌, map, Option, Some, None, if◌then◌else◌, slice_get}
use Rattle.fx_machine.specs.Acts.{Choices}
use Rattle.fx_tables.specs.Network.{Net, Exporter}
use Rattle.fx_leaf.specs.declared.verdict.Fate.{Fate}
use Rattle.fx_leaf.specs.declared.verdict.Fate.TheVariants.{Never}
use Rattle.fx_leaf.specs.Fates.{both}
use Rattle.fx_layout.specs.Keys.{Key}
use Rattle.fx_steps.specs.declared.costs.Costs.{Costs}
use Rattle.fx_steps.specs.Costs.{limited_sum, cost_of, pairs, both_cost}
use Rattle.fx_steps.specs.CostTables.{CostTable, destination_costs, all_destinations_costs, one_destination_costs}
use Rattle.fx_steps.specs.Building.{Item, Carried}

-- a record on a link, and the fate that it must have
pub record SentRecord : Type 0 where
  pub link : ℕ
  pub fate : Fate

-- the first of these pairs with this cost
abbrev pub first_pair : (Fate × Fate → ℕ) → List (Fate × Fate) → ℕ → Fate × Fate
first_pair v [] n = (Never, Never)
first_pair v (p ∷ ps) n = if v p == n then p else first_pair v ps n

-- two fates whose combination is this fate, at the least cost
abbrev pub shares : Costs → Costs → Fate → Fate × Fate
shares a b f = first_pair (λ (p : Fate × Fate). limited_sum (cost_of a p.0) (cost_of b p.1)) (pairs f) (both_cost a b f)

abbrev pub records_to_destination : Option ℕ → Fate → List SentRecord
records_to_destination None f = []
records_to_destination (Some link) f = record { link = link; fate = f } ∷ []

-- the records sent to all of these destinations
abbrev pub records_to_all : CostTable → Net → ℕ → List (Option ℕ) → Fate → List SentRecord
records_to_all table net number [] f = []
records_to_all table net number (d ∷ ds) f =
    let p = shares (destination_costs table net number d) (all_destinations_costs table net number ds) f in
    records_to_destination d p.0 ++ records_to_all table net number ds p.1

-- the index of the first destination with the least cost, and that destination
abbrev pub cheapest_place : CostTable → Net → ℕ → List (Option ℕ) → Fate → ℕ → ℕ
cheapest_place table net number [] f n = 0
cheapest_place table net number (d ∷ ds) f n =
    if cost_of (destination_costs table net number d) f == n then 0 else suc (cheapest_place table net number ds f n)

abbrev pub records_to_one : Option (Option ℕ) → Fate → List SentRecord
records_to_one None f = []
records_to_one (Some d) f = records_to_destination d f

abbrev pub choice_of : CostTable → Net → ℕ → List (Option ℕ) → Fate → ℕ
choice_of table net number ds f = cheapest_place table net number ds f
    (cost_of (one_destination_costs table net number ds) f)

-- for an exporting process: its choices, and the records that it puts on links
abbrev pub choices_by_exporter : CostTable → Net → ℕ → Exporter → Fate → Choices
choices_by_exporter table net number e f =
    if e.parallel then [] else Some (suc (choice_of table net number e.destinations f)) ∷ []

abbrev pub records_by_exporter : CostTable → Net → ℕ → Exporter → Fate → List SentRecord
records_by_exporter table net number e f =
    if e.parallel then records_to_all table net number e.destinations f
    else records_to_one (slice_get e.destinations (choice_of table net number e.destinations f)) f

-- ---- the cost of these records, and their combined fate

abbrev pub records_cost : CostTable → Net → ℕ → List SentRecord → ℕ
records_cost table net number [] = 0
records_cost table net number (x ∷ xs) = cost_of (destination_costs table net number (Some x.link)) x.fate
    + records_cost table net number xs

abbrev pub joint_fate : List SentRecord → Fate
joint_fate [] = Never
joint_fate (x ∷ xs) = both x.fate (joint_fate xs)

abbrev pub items_of : Key → List SentRecord → List Item
items_of key xs = map (λ (x : SentRecord). Carried x.link key) xs
