-- There is a low and a high on each axis, so the value of the split takes the place of one.
use Rattle.std.proofs.Common.{◌≡◌, ◌≤◌, ◌<◌, ◌↔◌, length, get_or, ap, sym, ◌∙◌, subst, arith}
use Rattle.fx_elements.specs.Axes.{axis_count, axis_index}
use Rattle.fx_elements.proofs.EveryAxis.{index_below}
use Rattle.fx_boxes.specs.Boxes.{Bounds, Holds, below_part, above_part}
use Rattle.fx_boxes.proofs.Parts.{below_is, above_is}
use Rattle.fx_boxes.proofs.region.Region.split.Goals as goal

pub returns-clause-below : goal.returns-clause-below
returns-clause-below c = λ f.
    let r = c.args.self.now in
    let j = axis_index c.args.axis in
    let len : length r.high ≡ axis_count = ap (λ (b : Bounds). length b.high) (sym c.self.view_is)
    ∙ sym (ap length c.array-high.ensures.value) ∙ c.array-high.ensures.count in
    let is : c.split_off-above.new.self ≡ below_part r j c.args.at = c.split_off-above.ensures.kept
    ∙ ap (λ (b : Bounds). below_part b j c.args.at) c.self.view_is in
    subst (λ (b : Bounds). Holds b f ↔ (Holds r f × (get_or f j 0 < c.args.at))) (sym is)
    (below_is r j c.args.at (index_below c.args.axis) (omega (arith, len, index_below c.args.axis))
    (c.can_split.ensures.0 cc) f)

pub returns-clause-above : goal.returns-clause-above
returns-clause-above c = λ f.
    let r = c.args.self.now in
    let j = axis_index c.args.axis in
    let len : length r.low ≡ axis_count = ap (λ (b : Bounds). length b.low) (sym c.self.view_is)
    ∙ sym (ap length c.array-low.ensures.value) ∙ c.array-low.ensures.count in
    let is : c.split_off-above.result ≡ above_part r j c.args.at = c.split_off-above.ensures.rest
    ∙ ap (λ (b : Bounds). above_part b j c.args.at) c.self.view_is in
    subst (λ (b : Bounds). Holds b f ↔ (Holds r f × (c.args.at ≤ get_or f j 0))) (sym is)
    (above_is r j c.args.at (index_below c.args.axis) (omega (arith, len, index_below c.args.axis))
    (c.can_split.ensures.0 cc) f)
