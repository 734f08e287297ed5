use Rattle.std.proofs.Common.{List, subst}
use Rattle.std.specs.List.{flat_map}
use Rattle.fx_tables.specs.Network.{DeviceEntry}
use Rattle.fx_net.specs.Doings.{EmptiesAll}
use Rattle.fx_net.proofs.contents.Contents.empty_network.Goals as goal

pub returns-clause-ok : goal.returns-clause-ok
returns-clause-ok g c = (
  g.L.Links.put_on c.empty_caches.new.links,
  c.empty_caches.new.self,
  subst (λ (ds : List DeviceEntry). EmptiesAll c.args.net.now (flat_map (λ (d : DeviceEntry). d.caches) ds)
      (g.L.Links.put_on c.args.links.now) c.args.self.now (g.L.Links.put_on c.empty_caches.new.links)
      c.empty_caches.new.self)
      c.devices.ensures c.in_ok-empty_caches.ensures.ok,
  c.in_ok-finish_processes.ensures.ok,
)
