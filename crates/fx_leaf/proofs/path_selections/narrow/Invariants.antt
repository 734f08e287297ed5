use Rattle.fx_leaf.proofs.Narrowing.{IsParted}
use Rattle.fx_leaf.proofs.path_selections.narrow.Given as goal

abbrev pub invariant-loop-index : goal.invariant-loop-index
invariant-loop-index l = IsParted l.region l.initial.selections l.selections l.kept l.index
