use Rattle.std.proofs.Common.{◌≡◌, [], ◌++◌, drop, map}
use Rattle.serde_json.specs.View.{view}
use Rattle.fx_walk.specs.Pointer.{pointer}
use Rattle.fx_topology.specs.Links.{link_of, links_faults}
use Rattle.fx_topology.proofs.links.links_of.Given as goal

abbrev pub invariant-loop-item : goal.invariant-loop-item
invariant-loop-item l =
    record {
      index : l.index ≡ l.item-index;
      faults : links_faults l.devices [] (pointer l.path) 0 (map view l.items)
          ≡ links_faults l.devices l.links (pointer l.path) l.index (map view (drop l.index l.items));
      links : l.links ++ map link_of (map view (drop l.index l.items)) ≡ map link_of (map view l.items);
    }
