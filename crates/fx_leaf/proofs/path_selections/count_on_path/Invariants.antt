use Rattle.std.proofs.Common.{◌≡◌, ◌+◌, drop}
use Rattle.fx_leaf.proofs.PathSelectionsGrow.{count_along}
use Rattle.fx_leaf.proofs.path_selections.count_on_path.Given as goal

-- the count so far, with what is still to come
abbrev pub invariant-loop-crossing : goal.invariant-loop-crossing
invariant-loop-crossing l = l.count + count_along l.net (drop l.crossing-index l.path) ≡ count_along l.net l.path
