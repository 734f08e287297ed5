use Rattle.std.proofs.Common.{◌≡◌, take, map}
use Rattle.fx_elements.specs.Axes.{axis_width, field}
use Rattle.fx_layout.specs.Keys.{leading_bits}
use Rattle.fx_layout.proofs.key.read_values.Given as goal

abbrev pub invariant-loop-part : goal.invariant-loop-part
invariant-loop-part l =
    l.into.items ≡ map (λ part. leading_bits (axis_width part.axis) part.bits (field l.fields part.axis))
    (take l.part-index l.part-items)
