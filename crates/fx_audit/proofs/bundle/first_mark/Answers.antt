use Rattle.std.proofs.Common.{arith}
use Rattle.fx_audit.proofs.Marks.{none_at_all}
use Rattle.fx_audit.proofs.bundle.first_mark.Goals as goal

pub returns-clause-none : goal.returns-clause-none
returns-clause-none c = none_at_all c.args.bytes.now
    (λ k lt. c.loop-at.invariant k (omega (arith, c.loop-at-test.false)))
