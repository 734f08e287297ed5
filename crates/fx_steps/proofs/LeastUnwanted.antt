-- A fate that costs least of all but the wanted one.
use Rattle.std.proofs.Common.{◌≢◌, ℕ, ◌≤◌, arith}
use Rattle.fx_machine.specs.Limits.{step_limit}
use Rattle.fx_leaf.specs.declared.verdict.Fate.{Fate}
use Rattle.fx_leaf.specs.declared.verdict.Fate.TheVariants.{Never, Once, Many, Differing, Unassigned}
use Rattle.fx_steps.specs.declared.costs.Costs.{Costs}
use Rattle.fx_steps.specs.Costs.{over_limit, cost_of, Tells}

-- no settled fate but the wanted one costs less
abbrev pub CostsLeast : Costs → Fate → Fate → Type 0
CostsLeast fate_costs wanted fate = (f : Fate) → f ≢ wanted → f ≢ Differing → cost_of fate_costs fate
    ≤ cost_of fate_costs f

module _ (fate_costs : Costs) (comes : Fate → ℕ → Type 0) (tells : Tells fate_costs comes) (wanted fate : Fate)
    (least : CostsLeast fate_costs wanted fate) where
  settled : (f : Fate) (n : ℕ) → f ≢ wanted → f ≢ Differing → comes f n → cost_of fate_costs fate ≤ n
  settled f n unwanted differs here =
      let a = least f unwanted differs in
      let b = tells.least f n here in
      omega arith

  pub least_of_all : (f : Fate) (n : ℕ) → f ≢ wanted → comes f n → cost_of fate_costs fate ≤ n
  least_of_all Never n unwanted here = settled Never n unwanted (λ e. absurd (cc)) here
  least_of_all Once n unwanted here = settled Once n unwanted (λ e. absurd (cc)) here
  least_of_all Many n unwanted here = settled Many n unwanted (λ e. absurd (cc)) here
  least_of_all Unassigned n unwanted here = settled Unassigned n unwanted (λ e. absurd (cc)) here
  least_of_all Differing n unwanted here = absurd (tells.settled n here)

  pub none_within : over_limit ≤ cost_of fate_costs fate → (f : Fate) (n : ℕ) → f ≢ wanted → n ≤ step_limit → comes f n
      → ⊥
  none_within over f n unwanted le here =
      let k = least_of_all f n unwanted here in
      omega arith
