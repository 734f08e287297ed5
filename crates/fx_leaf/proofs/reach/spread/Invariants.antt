use Rattle.std.proofs.Common.{◌≡◌, drop}
use Rattle.fx_leaf.specs.Reach.{spread}
use Rattle.fx_leaf.proofs.reach.spread.Given as goal

abbrev pub invariant-loop-index : goal.invariant-loop-index
invariant-loop-index l = l.marks ≡ spread l.tables.net l.tables.numbering (drop l.index l.order) l.initial.marks
