use Rattle.std.proofs.Common.{◌≡◌, drop, map}
use Rattle.fx_leaf.specs.Reach.{marks_by_holders}
use Rattle.fx_leaf.proofs.reach.mark_by_aggregations.Given as goal

abbrev pub invariant-loop-aggregation : goal.invariant-loop-aggregation
invariant-loop-aggregation l =
    marks_by_holders l.tables.net l.tables.numbering l.marks
    (map (λ a. a.holder) (drop l.aggregation-index l.aggregations))
    ≡ marks_by_holders l.tables.net l.tables.numbering l.initial.marks (map (λ a. a.holder) l.aggregations)
