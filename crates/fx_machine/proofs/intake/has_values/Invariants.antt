use Rattle.std.proofs.Common.{◌≡◌, drop, map}
use Rattle.std.specs.Str.{bytes_eq}
use Rattle.fx_elements.specs.Axes.{axis_width, field}
use Rattle.fx_layout.specs.Keys.{leading_bits}
use Rattle.fx_layout.specs.declared.layout.Part.{Part}
use Rattle.fx_machine.proofs.intake.has_values.Given as goal

abbrev pub invariant-loop-index : goal.invariant-loop-index
invariant-loop-index l =
    let value = λ (part : Part). leading_bits (axis_width part.axis) part.bits (field l.fields part.axis) in
    bytes_eq l.values (map value l.parts) ≡ bytes_eq (drop l.index l.values) (map value (drop l.index l.parts))
