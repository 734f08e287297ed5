use Rattle.std.proofs.Common.{◌≤◌, ◌<◌, ℕ, get_or}
use Rattle.fx_boxes.proofs.region.Region.disjoint.Given as goal

abbrev pub invariant-loop-k : goal.invariant-loop-k
invariant-loop-k l = (j : ℕ) → j < l.k → (get_or l.other.low j 0 ≤ get_or l.self.high j 0)
    × (get_or l.self.low j 0 ≤ get_or l.other.high j 0)
