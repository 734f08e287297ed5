use Rattle.std.proofs.Common.{◌≡◌, take, map}
use Rattle.std.specs.List.{flat_map}
use Rattle.fx_topology.specs.declared.network_device.NetworkDevice.{NetworkDevice}
use Rattle.fx_net.specs.Opening.{store_of}
use Rattle.fx_net.proofs.opening.cache_stores.Given as goal

abbrev pub invariant-loop-device : goal.invariant-loop-device
invariant-loop-device l = l.stores.items
    ≡ map store_of (flat_map (λ (d : NetworkDevice). d.config.caches) (take l.device-index l.devices))
