use Rattle.std.proofs.Common.{◌≡◌, ◌+◌, ◌++◌, drop}
use Rattle.fx_traffic.specs.Targets.{targets_along, AreRegions}
use Rattle.fx_traffic.proofs.targets.add_paths.Given as goal

-- what was added, and the paths that are left
abbrev pub invariant-paths : goal.invariant-paths
invariant-paths l = record {
  items : l.targets.items ++ targets_along l.number l.region l.exempt (l.index + 1) (drop l.index l.paths)
      ≡ l.fn.targets.items ++ targets_along l.number l.region l.exempt 1 l.paths;
  regions : AreRegions l.fn.targets.items → AreRegions l.targets.items;
}
