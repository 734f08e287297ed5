use Rattle.std.proofs.Common.{ℕ, Contains, List, subst}
use Rattle.fx_leaf.proofs.table.Verdicts.halving_among.Goals as goal

pub returns-in-Some : goal.returns-in-Some
returns-in-Some c = c.in_ok-collect_matches.ensures c.in-Some.at
    (subst (λ (xs : List ℕ). Contains xs c.in-Some.at) c.deref_mut.ensures.value c.in-Some.ensures)
