use Rattle.std.proofs.Common.{[]}
use Rattle.fx_plan.specs.Tables.{point_of}
use Rattle.fx_plan.proofs.Loops.{one_made, all_made}
use Rattle.fx_plan.proofs.points.points_of.Goals as goal

pub loop-point-preserved : goal.loop-point-preserved
loop-point-preserved c =
    one_made (point_of c.args.caches.now c.args.device.now) [] c.args.points.now c.loop-point.point-index
    c.point-item.result c.in_ok-point.point c.loop-point.seen.items _ c.loop-point-test.true c.point-item.is
    c.in_ok-point.ensures c.loop-point.invariant c.in_ok-push.ensures.items

pub returns : goal.returns
returns c =
    all_made (point_of c.args.caches.now c.args.device.now) [] c.args.points.now c.loop-point.point-index
    c.loop-point.seen.items c.loop-point-test.false c.loop-point.invariant
