use Rattle.std.proofs.Common.{rules}
-- Below the next value are the values up to this one.
use Rattle.std.proofs.Common.{arith}
use Rattle.fx_leaf.proofs.regions.part_up_to.Goals as goal

pub returns-in-Some-clause-some : goal.returns-in-Some-clause-some
returns-in-Some-clause-some c = λ f.
    let below = c.in-Some.ensures.below f in (
      λ h. (let x = below.0 h in (x.0, omega (arith, x.1))),
      λ x. below.1 (x.0, omega (arith, x.1)),
    )

pub overflow_add-most : goal.overflow_add-most
overflow_add-most c = first_of (grind arith, search rules)
