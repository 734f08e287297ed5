use Rattle.std.proofs.Common.{[]}
use Rattle.fx_plan.specs.Tables.{table_of}
use Rattle.fx_plan.proofs.Loops.{one_made, all_made}
use Rattle.fx_plan.proofs.points.tables_of.Goals as goal

pub loop-device-preserved : goal.loop-device-preserved
loop-device-preserved c =
    one_made (table_of c.args.caches.now c.args.collecting.now) [] c.args.devices.now c.loop-device.device-index
    c.device-item.result c.in_ok-table.table c.loop-device.tables.items _ c.loop-device-test.true c.device-item.is
    c.in_ok-table.ensures c.loop-device.invariant c.in_ok-push.ensures.items

pub returns : goal.returns
returns c =
    all_made (table_of c.args.caches.now c.args.collecting.now) [] c.args.devices.now c.loop-device.device-index
    c.loop-device.tables.items c.loop-device-test.false c.loop-device.invariant
