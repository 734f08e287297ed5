use Rattle.std.proofs.Common.{arith}
use Rattle.fx_leaf.proofs.OverlapsAreRight.{low_fits}
use Rattle.fx_leaf.proofs.regions.least_of.Goals as goal

pub overflow_mul-result : goal.overflow_mul-result
overflow_mul-result c = rw c.span.ensures (let fits = low_fits c.args.entry c.requires in omega (arith, fits))
