use Rattle.std.proofs.Common.{sym, ◌∙◌, true≢false}
use Rattle.fx_leaf.proofs.OverlapsAreRight.{not_disjoint, disjoint_overlap, inside_overlap, cut_overlap}
use Rattle.fx_leaf.proofs.regions.region_overlap.Goals as goal

pub returns-then-inside : goal.returns-then-inside
returns-then-inside c =
    let inside = c.inside.ensures.0 c.if-inside.true in
    sym (inside_overlap c.args.region.now c.args.other.now
    (not_disjoint c.args.region.now c.args.other.now c.bounds_hold.ensures inside) inside)

pub returns-then-disjoint : goal.returns-then-disjoint
returns-then-disjoint c = sym (disjoint_overlap c.args.region.now c.args.other.now
    (c.disjoint.ensures.0 c.if-disjoint.true))

pub returns-else-disjoint : goal.returns-else-disjoint
returns-else-disjoint c = sym (cut_overlap c.args.region.now c.args.other.now
    (λ d. true≢false (sym (c.disjoint.ensures.1 d) ∙ c.if-disjoint.false))
    (λ i. true≢false (sym (c.inside.ensures.1 i) ∙ c.if-inside.false)))
