use Rattle.std.proofs.Common.{◌≤◌, ◌-◌, ◌++◌, List}
use Rattle.fx_cert.specs.declared.item.Version.{Version}
use Rattle.fx_leaf.specs.PathTables.{HasProcessRoom, IsPathBegun}
use Rattle.fx_traffic.specs.Targets.{Target}
use Rattle.fx_search.specs.Fronts.{RegionAhead}
use Rattle.fx_search.specs.Growing.{AreAhead, IsGrowing, front}
use Rattle.fx_search.proofs.searching.grow.Given as goal

abbrev pub invariant-regions : goal.invariant-regions
invariant-regions g l = record {
  room : HasProcessRoom l.tables l.scratch;
  begun : IsPathBegun l.tables l.target.crossings l.scratch;
  ahead : AreAhead l.scratch.selections l.target l.growth.ahead.items;
  few : l.growth.lines ≤ l.most;
  growing : (targets : List Target) (version : Version) (later : List RegionAhead)
      → IsGrowing l.tables.net targets version l.most l.fn.growth.items.items l.fn.growth.lines
      (front l.fn.growth.ahead.items ++ later)
      → IsGrowing l.tables.net targets version l.most l.growth.items.items l.growth.lines
      (front l.growth.ahead.items ++ later);
}

abbrev pub decreases-regions : goal.decreases-regions
decreases-regions g l = l.most - l.growth.lines
