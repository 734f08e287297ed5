use Rattle.std.proofs.Common.{◌≡◌, ◌+◌, drop}
use Rattle.fx_selectors.specs.Feeding.{numbers_with_cache}
use Rattle.fx_selectors.proofs.feeding.next_fed.Given as goal

abbrev pub invariant-loop-index : goal.invariant-loop-index
invariant-loop-index l = numbers_with_cache l.processes (l.from + 1) (drop l.from l.names)
    ≡ numbers_with_cache l.processes (l.index + 1) (drop l.index l.names)
