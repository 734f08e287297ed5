use Rattle.std.proofs.Common.{rules}
use Rattle.std.proofs.Common.{arith}
use Rattle.fx_leaf.proofs.OverlapsAreRight.{high_fits}
use Rattle.fx_leaf.proofs.regions.most_of.Goals as goal

pub overflow_add-result : goal.overflow_add-result
overflow_add-result c = rw (c.least_of.ensures, c.span.ensures)
    (let fits = high_fits c.args.entry c.requires in omega (arith, fits))

pub returns : goal.returns
returns c = first_of (grind arith, search rules)

pub returns-then-entry-eq0 : goal.returns-then-entry-eq0
returns-then-entry-eq0 c = first_of (grind arith, search rules)
