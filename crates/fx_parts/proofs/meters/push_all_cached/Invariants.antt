use Rattle.std.proofs.Common.{◌≡◌, ◌++◌, take}
use Rattle.std.specs.Prelude.{flat_map}
use Rattle.fx_parts.specs.Meters.{cached}
use Rattle.fx_parts.proofs.meters.push_all_cached.Given as goal

abbrev pub invariant-loop-index : goal.invariant-loop-index
invariant-loop-index l = l.found.items ≡ l.initial.found.items ++ flat_map cached (take l.index l.selections)
