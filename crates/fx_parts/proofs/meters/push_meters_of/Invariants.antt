use Rattle.std.proofs.Common.{◌≡◌, ◌++◌, take}
use Rattle.std.specs.Prelude.{flat_map}
use Rattle.fx_parts.specs.Meters.{meters_at}
use Rattle.fx_parts.proofs.meters.push_meters_of.Given as goal

abbrev pub invariant-loop-index : goal.invariant-loop-index
invariant-loop-index l = l.found.items ≡ l.initial.found.items
    ++ flat_map (meters_at l.crossing) (take l.index l.points)
