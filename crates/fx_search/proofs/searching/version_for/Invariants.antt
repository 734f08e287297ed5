use Rattle.std.proofs.Common.{◌≡◌, drop}
use Rattle.fx_search.specs.Found.{some_exempt}
use Rattle.fx_search.proofs.searching.version_for.Given as goal

-- none of the classes gone past is exempt
abbrev pub invariant-classes : goal.invariant-classes
invariant-classes l = some_exempt l.classes ≡ some_exempt (drop l.index l.classes)
