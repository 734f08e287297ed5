use Rattle.std.proofs.Common.{ℕ, List, Contains}
use Rattle.fx_tables.specs.Network.{Net}
use Rattle.fx_tables.specs.declared.traffic.Crossing.{Crossing}
use Rattle.fx_leaf.specs.PathSelections.{PathSelection}
use Rattle.fx_leaf.specs.Splits.{IsSplit, Meets}
use Rattle.fx_leaf.proofs.balance.collect_bounds.Given as goal

-- each bound so far splits the region
abbrev pub invariant-loop-index : goal.invariant-loop-index
invariant-loop-index l = (net : Net) (path : List Crossing) (at : ℕ)
    → ((s : PathSelection) → Contains l.selections s → Meets net path s.selection) → Contains l.values.items at
    → IsSplit net path l.region l.axis at
