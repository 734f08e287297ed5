use Rattle.std.proofs.Common.{◌≡◌, take, map}
use Rattle.fx_plan.specs.Tables.{selection_of}
use Rattle.fx_plan.proofs.points.selections_of.Given as goal

abbrev pub invariant-loop-name : goal.invariant-loop-name
invariant-loop-name l = l.selections.items ≡ map (selection_of l.caches l.device) (take l.name-index l.names)
