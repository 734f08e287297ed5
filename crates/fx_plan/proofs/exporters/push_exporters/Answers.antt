use Rattle.fx_plan.specs.Tables.{exporter_of}
use Rattle.fx_plan.proofs.Loops.{one_made, all_made}
use Rattle.fx_plan.proofs.exporters.push_exporters.Goals as goal

pub loop-process-preserved : goal.loop-process-preserved
loop-process-preserved c =
    one_made (exporter_of c.args.links.now c.args.device.now) c.args.exporters.now.items c.args.processes.now
    c.loop-process.process-index c.process-item.result c.in_ok-exporter.exporter c.loop-process.exporters.items _
    c.loop-process-test.true c.process-item.is c.in_ok-exporter.ensures c.loop-process.invariant
    c.in_ok-push.ensures.items

pub returns : goal.returns
returns c =
    all_made (exporter_of c.args.links.now c.args.device.now) c.args.exporters.now.items c.args.processes.now
    c.loop-process.process-index c.loop-process.exporters.items c.loop-process-test.false c.loop-process.invariant
