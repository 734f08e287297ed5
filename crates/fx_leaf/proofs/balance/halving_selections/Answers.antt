use Rattle.std.proofs.Common.{ℕ, Contains, List, subst}
use Rattle.fx_leaf.proofs.balance.halving_selections.Goals as goal

pub returns-in-Some : goal.returns-in-Some
returns-in-Some c = λ net path meets. c.in_ok-collect_bounds.ensures net path c.in-Some.at meets
    (subst (λ (xs : List ℕ). Contains xs c.in-Some.at) c.deref_mut.ensures.value c.in-Some.ensures)
