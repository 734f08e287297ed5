use Rattle.std.proofs.Common.{List, [], ◌++◌, map, ap, ◌∙◌}
use Rattle.fx_config.specs.declared.cache.Cache.{Cache}
use Rattle.fx_topology.specs.declared.network_device.NetworkDevice.{NetworkDevice}
use Rattle.fx_plan.specs.Tables.{cache_holder}
use Rattle.fx_plan.proofs.Loops.{more_made, all_more_made}
use Rattle.fx_plan.proofs.holders.cache_holders.Goals as goal

pub loop-device-preserved : goal.loop-device-preserved
loop-device-preserved c =
    let holders = c.loop-device.holders.items in
    let device = c.device-item.result in
    let held = cache_holder c.args.exporting.now in
    more_made (λ (x : NetworkDevice). map (held x.name) x.config.caches) [] c.args.devices.now
    c.loop-device.device-index device holders _ c.loop-device-test.true c.device-item.is c.loop-device.invariant
    (c.in_ok-push_caches.ensures ∙ ap (λ (caches : List Cache). holders ++ map (held device.name) caches)
    c.as_slice-caches.ensures)

pub returns : goal.returns
returns c =
    all_more_made (λ (x : NetworkDevice). map (cache_holder c.args.exporting.now x.name) x.config.caches) []
    c.args.devices.now c.loop-device.device-index c.loop-device.holders.items c.loop-device-test.false
    c.loop-device.invariant
