-- Least numbers of steps, and how they combine.
use Rattle.std.specs.Prelude.{◌≤◌, ℕ, ◌+◌, min, List, [], ◌∷◌, map}
use Rattle.fx_machine.specs.Limits.{step_limit}
use Rattle.fx_leaf.specs.declared.verdict.Fate.{Fate}
use Rattle.fx_leaf.specs.declared.verdict.Fate.TheVariants.{Never, Once, Many, Differing, Unassigned}
use Rattle.fx_steps.specs.declared.costs.Costs.{Costs}

-- one more than the largest number of steps of a run
abbrev pub over_limit : ℕ
over_limit = 1000001

abbrev pub limited_sum : ℕ → ℕ → ℕ
limited_sum a b = min (a + b) over_limit

abbrev pub least_number : List ℕ → ℕ
least_number [] = over_limit
least_number (x ∷ xs) = min (least_number xs) x

abbrev pub cost_of : Costs → Fate → ℕ
cost_of c Never = c.never
cost_of c Once = c.once
cost_of c Many = c.many
cost_of c Unassigned = c.unassigned
cost_of c Differing = over_limit

-- the pairs of fates whose combination is this fate
abbrev pub pairs : Fate → List (Fate × Fate)
pairs Never = (Never, Never) ∷ []
pairs Once = (Never, Once) ∷ (Once, Never) ∷ []
pairs Many = (Never, Many) ∷ (Many, Never) ∷ (Once, Once) ∷ (Once, Many) ∷ (Many, Once) ∷ (Many, Many) ∷ []
pairs Unassigned = (Unassigned, Never) ∷ (Unassigned, Once) ∷ (Unassigned, Many) ∷ (Unassigned, Unassigned)
    ∷ (Never, Unassigned) ∷ (Once, Unassigned) ∷ (Many, Unassigned) ∷ []
pairs Differing = []

abbrev pub both_cost : Costs → Costs → Fate → ℕ
both_cost a b f = least_number (map (λ (p : Fate × Fate). limited_sum (cost_of a p.0) (cost_of b p.1)) (pairs f))

abbrev pub both_costs : Costs → Costs → Costs
both_costs a b = record {
  never = both_cost a b Never;
  once = both_cost a b Once;
  many =
      both_cost a b Many;
  unassigned = both_cost a b Unassigned;
}

abbrev pub either_costs : Costs → Costs → Costs
either_costs a b = record {
  never = min a.never b.never;
  once = min a.once b.once;
  many =
      min a.many b.many;
  unassigned = min a.unassigned b.unassigned;
}

abbrev pub one_step_more : Costs → Costs
one_step_more c = record {
  never = limited_sum 1 c.never;
  once = limited_sum 1 c.once;
  many =
      limited_sum 1 c.many;
  unassigned = limited_sum 1 c.unassigned;
}

abbrev pub costs_of_never : Costs
costs_of_never = record { never = 0; once = over_limit; many = over_limit; unassigned = over_limit }

abbrev pub costs_of_once : Costs
costs_of_once = record { never = over_limit; once = 0; many = over_limit; unassigned = over_limit }

abbrev pub costs_of_unassigned : Costs
costs_of_unassigned = record { never = over_limit; once = over_limit; many = over_limit; unassigned = 0 }

abbrev pub costs_of_no_way : Costs
costs_of_no_way = record { never = over_limit; once = over_limit; many = over_limit; unassigned = over_limit }

-- the least number of steps to each fate, if it is within the limit
pub record Tells (c : Costs) (comes : Fate → ℕ → Type 0) : Type 0 where
  pub least : (f : Fate) (n : ℕ) → comes f n → cost_of c f ≤ n
  pub reached : (f : Fate) → cost_of c f ≤ step_limit → comes f (cost_of c f)
  pub settled : (n : ℕ) → comes Differing n → ⊥
