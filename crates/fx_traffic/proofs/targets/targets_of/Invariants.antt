use Rattle.std.proofs.Common.{◌≡◌, ◌+◌, ◌++◌, drop}
use Rattle.fx_traffic.specs.Targets.{targets_from, AreRegions}
use Rattle.fx_traffic.proofs.targets.targets_of.Given as goal

-- what was added, and the classes that are left
abbrev pub invariant-classes : goal.invariant-classes
invariant-classes l = record {
  items : l.targets.items ++ targets_from (l.index + 1) (drop l.index l.classes) ≡ targets_from 1 l.classes;
  regions : AreRegions l.targets.items;
}
