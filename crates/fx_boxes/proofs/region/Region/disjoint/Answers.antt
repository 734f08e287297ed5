use Rattle.std.proofs.Common.{rules}
use Rattle.std.proofs.Common.{subst, arith}
use Rattle.fx_boxes.specs.Boxes.{IsRegion}
use Rattle.fx_boxes.proofs.Overlaps.{not_apart}
use Rattle.fx_boxes.proofs.region.Region.disjoint.Goals as goal

pub returns : goal.returns
returns c =
    let one : IsRegion c.args.self.now = subst IsRegion c.self.view_is c.self.invariant in
    let two : IsRegion c.args.other.now = subst IsRegion c.other.view_is c.other.invariant in (
      λ h. absurd cc,
      λ apart. absurd (not_apart c.args.self.now c.args.other.now one two
          (λ k lt. c.loop-k.invariant k (omega arith)) apart),
    )

pub returns-then-value_at : goal.returns-then-value_at
returns-then-value_at c = first_of (grind arith, search rules)
