use Rattle.std.proofs.Common.{◌≡◌, drop, fold}
use Rattle.fx_selectors.specs.Selection.{bounds_of, narrowed_by}
use Rattle.fx_selectors.proofs.region.bounds_of.Given as goal

abbrev pub invariant-loop-selector : goal.invariant-loop-selector
invariant-loop-selector l = fold (λ b selector. narrowed_by b selector.method) l.bounds
    (drop l.selector-index l.selectors) ≡ bounds_of l.selectors
