use Rattle.std.proofs.Common.{◌≡◌, ◌<◌, length}
use Rattle.fx_elements.specs.declared.axis.Axis.{Axis}
use Rattle.fx_elements.specs.Axes.{axis_count, axis_index}
use Rattle.fx_session.specs.Parts.{IsGathered}
use Rattle.fx_session.specs.Values.{noted_part}
use Rattle.fx_session.proofs.flow.gather.Given as goal

-- what is noted on the axes so far
abbrev pub invariant-loop-axis : goal.invariant-loop-axis
invariant-loop-axis l = record {
  bits_count : length l.bits ≡ axis_count;
  values_count : length l.numbers ≡ axis_count;
  reported : (axis : Axis) → axis_index axis < l.axis-index → IsGathered l.bits l.numbers axis (noted_part l.seen axis);
}
