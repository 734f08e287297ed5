use Rattle.std.proofs.Common.{arith}
use Rattle.fx_leaf.proofs.CutsHaveBounds.{on_each, uncut_by}
use Rattle.fx_leaf.proofs.bound.bound.Goals as goal

pub returns-clause-none : goal.returns-clause-none
returns-clause-none c =
    uncut_by c.args.region.now c.args.other.now
    (on_each c.args.region.now c.args.other.now
    (λ k. λ lt. c.loop-axis.invariant k (omega (arith, lt, c.loop-axis-test.false))))
