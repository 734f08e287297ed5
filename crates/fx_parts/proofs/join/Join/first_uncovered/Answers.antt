use Rattle.std.proofs.Common.{sym}
use Rattle.fx_parts.proofs.Joins.{modulo_if, once_if}
use Rattle.fx_parts.proofs.join.Join.first_uncovered.Goals as goal

pub returns-clause-once : goal.returns-clause-once
returns-clause-once c = once_if _ _ _ _ (sym c.self.view_is) c.self.invariant c.first_unmarked.ensures
    c.as_slice.ensures.value

pub returns-clause-modulo : goal.returns-clause-modulo
returns-clause-modulo c = modulo_if _ _ _ _ (sym c.self.view_is) c.self.invariant c.first_unmarked.ensures
    c.as_slice.ensures.value
