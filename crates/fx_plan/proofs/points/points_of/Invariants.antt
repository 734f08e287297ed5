use Rattle.std.proofs.Common.{◌≡◌, take, map}
use Rattle.fx_plan.specs.Tables.{point_of}
use Rattle.fx_plan.proofs.points.points_of.Given as goal

abbrev pub invariant-loop-point : goal.invariant-loop-point
invariant-loop-point l = l.seen.items ≡ map (point_of l.caches l.device) (take l.point-index l.points)
