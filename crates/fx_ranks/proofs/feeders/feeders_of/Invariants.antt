use Rattle.std.proofs.Common.{◌≡◌, map}
use Rattle.std.specs.List.{range_with_len}
use Rattle.fx_ranks.specs.Feeding.{feeds}
use Rattle.fx_ranks.proofs.feeders.feeders_of.Given as goal

abbrev pub invariant-loop-from : goal.invariant-loop-from
invariant-loop-from l = l.feeders.items ≡ map (λ from. feeds l.linked from l.process) (range_with_len 0 l.from)
