use Rattle.std.proofs.Common.{◌≡◌, not, filter, get_or, false}
use Rattle.std.specs.List.{range_with_len}
use Rattle.fx_plan.proofs.cycle.places_left.Given as goal

abbrev pub invariant-loop-index : goal.invariant-loop-index
invariant-loop-index l = l.places.items ≡ filter (λ index. not (get_or l.come index false)) (range_with_len 0 l.index)
