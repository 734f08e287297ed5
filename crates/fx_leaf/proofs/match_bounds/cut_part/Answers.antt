use Rattle.std.proofs.Common.{◌∙◌, subst, sym}
use Rattle.fx_boxes.specs.Boxes.{Holds}
use Rattle.fx_leaf.proofs.OverlapsAreRight.{match_some}
use Rattle.fx_leaf.proofs.CutsHaveBounds.{same_split}
use Rattle.fx_leaf.proofs.match_bounds.cut_part.Goals as goal

pub returns-in-Part : goal.returns-in-Part
returns-in-Part c =
    let region = c.args.region.now in
    let entries = c.args.entries.now in
    let part = c.in_ok-part.part in
    let low = subst (Holds part) c.corner.ensures.least c.corner.ensures.held in
    let high = subst (Holds part) c.far_corner.ensures.greatest c.far_corner.ensures.held in (
      sym (match_some region part entries c.bounds_hold.ensures c.in_ok-part.ensures.some)
          ∙ sym c.region_overlap.ensures
          ∙ c.in-Part.is,
      λ axis at by. same_split region part entries c.bounds_hold.ensures c.in_ok-part.ensures.some low
          high axis at by,
    )
