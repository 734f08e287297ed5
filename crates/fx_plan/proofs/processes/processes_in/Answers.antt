use Rattle.std.proofs.Common.{◌≡◌, ℕ, ◌+◌, ◌++◌, length, refl, ap, ◌∙◌}
use Rattle.std.proofs.lemmas.List.{length-append}
use Rattle.fx_topology.specs.declared.network_device.NetworkDevice.{NetworkDevice}
use Rattle.fx_plan.specs.Tables.{held_by, processes_from, processes_in}
use Rattle.fx_plan.proofs.Loops.{more_made, all_more_made, one_left, none_left}
use Rattle.fx_plan.proofs.processes.processes_in.Goals as goal

pub loop-device-preserved : goal.loop-device-preserved
loop-device-preserved c =
    let i = c.loop-device.invariant in
    let exporting = c.args.exporting.now in
    let holders = c.loop-device.holders.items in
    let device = c.device-item.result in
    let collecting = c.as_slice-collecting.ensures in
    let held = c.in_ok-push_processes.ensures.held ∙ ap (λ ps. holders ++ held_by exporting device.name ps) collecting
    in
    let tables = c.in_ok-push_processes.ensures.tables
    ∙ ap (λ ps. c.loop-device.processes.items ++ processes_from exporting device.name (length holders) ps)
    collecting in
    let more : length c.push_processes.new.holders.items ≡ length holders
    + length (held_by exporting device.name device.config.collecting_processes) = ap length held
    ∙ length-append holders (held_by exporting device.name device.config.collecting_processes) in (
      more_made (λ (x : NetworkDevice). held_by exporting x.name x.config.collecting_processes) c.args.holders.now.items
          c.args.devices.now c.loop-device.device-index device holders _ c.loop-device-test.true c.device-item.is i.0
          held,
      one_left (processes_in exporting) (λ (k : ℕ) (x : NetworkDevice). processes_from exporting x.name k
          x.config.collecting_processes) (λ (x : NetworkDevice). length
          (held_by exporting x.name x.config.collecting_processes)) (λ _ _ _. refl) c.args.devices.now
          c.loop-device.device-index (length holders) _ device c.loop-device.processes.items _ _ c.loop-device-test.true
          c.device-item.is more i.1 tables,
    )

pub returns-clause-held : goal.returns-clause-held
returns-clause-held c =
    all_more_made (λ (x : NetworkDevice). held_by c.args.exporting.now x.name x.config.collecting_processes)
    c.args.holders.now.items c.args.devices.now c.loop-device.device-index c.loop-device.holders.items
    c.loop-device-test.false c.loop-device.invariant.0

pub returns-clause-tables : goal.returns-clause-tables
returns-clause-tables c =
    none_left (processes_in c.args.exporting.now) (λ _. refl) c.args.devices.now c.loop-device.device-index
    (length c.loop-device.holders.items) c.loop-device.processes.items _ c.loop-device-test.false
    c.loop-device.invariant.1
