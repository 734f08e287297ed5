use Rattle.std.proofs.Common.{◌≡◌, map}
use Rattle.std.specs.List.{range_with_len}
use Rattle.fx_ranks.specs.Feeding.{feeders}
use Rattle.fx_ranks.proofs.feeders.all_feeders.Given as goal

abbrev pub invariant-loop-process : goal.invariant-loop-process
invariant-loop-process l = map (λ row. row.items) l.rows.items ≡ map (feeders l.net) (range_with_len 0 l.process)
