use Rattle.std.proofs.Common.{◌≡◌, ◌≤◌, List, [], drop, map}
use Rattle.fx_cert.specs.declared.item.Version.{Version}
use Rattle.fx_leaf.specs.PathTables.{HasProcessRoom}
use Rattle.fx_traffic.specs.Targets.{Target}
use Rattle.fx_search.specs.Fronts.{root}
use Rattle.fx_search.specs.Growing.{IsGrowing}
use Rattle.fx_search.proofs.searching.grow_all.Given as goal

-- the targets from this place on are ahead
abbrev pub invariant-targets : goal.invariant-targets
invariant-targets g l = record {
  room : HasProcessRoom l.tables l.scratch;
  empty : l.growth.ahead.items ≡ [];
  few : l.growth.lines ≤ l.most;
  growing : (all : List Target) (version : Version)
      → IsGrowing l.tables.net all version l.most l.fn.growth.items.items l.fn.growth.lines (map root l.targets)
      → IsGrowing l.tables.net all version l.most l.growth.items.items l.growth.lines
      (map root (drop l.index l.targets));
}
