use Rattle.std.proofs.Common.{◌≡◌, map, take}
use Rattle.fx_elements.specs.Axes.{axis_width, field}
use Rattle.fx_layout.specs.Keys.{leading_bits}
use Rattle.fx_session.specs.Places.{fields_read}
use Rattle.fx_session.proofs.places.RecordPlaces.read_values.Given as goal

-- the values of the parts so far
abbrev pub invariant-loop-part : goal.invariant-loop-part
invariant-loop-part l = l.values ≡ map (λ part. leading_bits (axis_width part.axis) part.bits
    (field (fields_read l.self l.octets) part.axis)) (take l.part-index l.part-items)
