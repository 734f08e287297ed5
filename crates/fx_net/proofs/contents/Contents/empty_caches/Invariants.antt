-- What completes the rest completes the whole.
use Rattle.std.proofs.Common.{◌≡◌, drop, false}
use Rattle.std.specs.List.{flat_map}
use Rattle.fx_tables.specs.Network as network
use Rattle.fx_net.specs.Doings.{Ended, Empties}
use Rattle.fx_net.proofs.OneAfterAnother.{Completes}
use Rattle.fx_net.proofs.contents.Contents.empty_caches.Given as goal

abbrev pub invariant-loop-device : goal.invariant-loop-device
invariant-loop-device g l = record {
  done : Completes (λ place. Ended (Empties l.net place)) (flat_map (λ (d : network.DeviceEntry). d.caches) l.devices)
      (g.L.Links.put_on l.initial.links) l.fn.self
      (flat_map (λ (d : network.DeviceEntry). d.caches) (drop l.device-index l.devices)) (g.L.Links.put_on l.links)
      l.self;
  going : g.L.Links.failed l.initial.links ≡ false → g.L.Links.failed l.links ≡ false;
}
