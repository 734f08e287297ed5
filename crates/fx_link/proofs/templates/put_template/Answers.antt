use Rattle.std.proofs.Common.{◌+◌, ◌≤◌, length, arith}
use Rattle.fx_elements.specs.Axes.{axis_count}
use Rattle.fx_link.proofs.BatchTrip.{axes_few}
use Rattle.fx_link.proofs.templates.put_template.Goals as goal

pub field_count-count-requires : goal.field_count-count-requires
field_count-count-requires c =
    let few : length c.parts.result.now + 0 ≤ axis_count =
    axes_few 0 c.parts.result.now c.parts.ensures.kept.ascends (omega arith) in omega arith

pub overflow_cast-count : goal.overflow_cast-count
overflow_cast-count c =
    let few : length c.parts.result.now + 0 ≤ axis_count =
    axes_few 0 c.parts.result.now c.parts.ensures.kept.ascends (omega arith) in omega arith
