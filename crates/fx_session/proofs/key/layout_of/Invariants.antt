use Rattle.std.proofs.Common.{◌≡◌, take, get_or}
use Rattle.std.specs.List.{flat_map}
use Rattle.fx_elements.specs.Axes.{axes, axis_index}
use Rattle.fx_session.specs.Parts.{AllBefore, part_by}
use Rattle.fx_session.proofs.key.layout_of.Given as goal

-- the parts of the axes so far
abbrev pub invariant-loop-axis : goal.invariant-loop-axis
invariant-loop-axis l = (l.layout ≡ flat_map (λ axis. part_by axis (get_or l.bits (axis_index axis) 0))
    (take l.axis-index axes)) × AllBefore l.layout l.axis-index
