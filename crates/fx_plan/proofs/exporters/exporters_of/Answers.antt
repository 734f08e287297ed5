use Rattle.std.proofs.Common.{List, [], ◌++◌, map, ap, ◌∙◌}
use Rattle.fx_config.specs.declared.exporting_process.ExportingProcess.{ExportingProcess}
use Rattle.fx_topology.specs.declared.network_device.NetworkDevice.{NetworkDevice}
use Rattle.fx_plan.specs.Tables.{exporter_of}
use Rattle.fx_plan.proofs.Loops.{more_made, all_more_made}
use Rattle.fx_plan.proofs.exporters.exporters_of.Goals as goal

pub loop-device-preserved : goal.loop-device-preserved
loop-device-preserved c =
    let exporters = c.loop-device.exporters.items in
    let device = c.device-item.result in
    let of_device = exporter_of c.args.links.now in
    more_made (λ (x : NetworkDevice). map (of_device x.name) x.config.exporting_processes) [] c.args.devices.now
    c.loop-device.device-index device exporters _ c.loop-device-test.true c.device-item.is c.loop-device.invariant
    (c.in_ok-push_exporters.ensures ∙ ap (λ (ps : List ExportingProcess). exporters
    ++ map (of_device device.name) ps) c.as_slice-processes.ensures)

pub returns : goal.returns
returns c =
    all_more_made (λ (x : NetworkDevice). map (exporter_of c.args.links.now x.name) x.config.exporting_processes) []
    c.args.devices.now c.loop-device.device-index c.loop-device.exporters.items c.loop-device-test.false
    c.loop-device.invariant
