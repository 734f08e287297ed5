use Rattle.std.proofs.Common.{◌≤◌, ◌<◌, ℕ, get_or}
use Rattle.fx_boxes.proofs.region.Region.has.Given as goal

abbrev pub invariant-loop-k : goal.invariant-loop-k
invariant-loop-k l = (j : ℕ) → j < l.k → (get_or l.self.low j 0 ≤ get_or l.fields j 0)
    × (get_or l.fields j 0 ≤ get_or l.self.high j 0)
