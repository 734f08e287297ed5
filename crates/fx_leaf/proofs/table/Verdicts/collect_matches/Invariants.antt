use Rattle.std.proofs.Common.{ℕ, Contains}
use Rattle.fx_leaf.specs.declared.cause.Cause.TheVariants.{Split}
use Rattle.fx_leaf.specs.Causes.{IsCauseInMatches}
use Rattle.fx_leaf.proofs.table.Verdicts.collect_matches.Given as goal

-- each bound so far is one of a match that cuts the region
abbrev pub invariant-loop-index : goal.invariant-loop-index
invariant-loop-index l =
    (at : ℕ) → Contains l.values.items at → IsCauseInMatches l.self.tables.now l.self.region.now l.self.rows.now
    l.layout l.remaining (Split l.axis at)
