use Rattle.std.proofs.Common.{◌≡◌, ℕ, IfSome, List, rules, subst}
use Rattle.fx_elements.specs.declared.axis.Axis.{Axis}
use Rattle.fx_tables.specs.declared.aggregation.MatchEntry.{MatchEntry}
use Rattle.fx_leaf.specs.declared.regions.Overlap.TheVariants.{Part}
use Rattle.fx_leaf.specs.Overlaps.{match_fields, region_overlap}
use Rattle.fx_leaf.specs.Splits.{IsSplitBy}
use Rattle.fx_leaf.proofs.PathSplits.{some_more}
use Rattle.fx_leaf.proofs.table.Verdicts.part_taken.Goals as goal

pub returns : goal.returns
returns c =
    let region = c.args.self.now.region.now in
    let cut = subst (λ (es : List MatchEntry). IfSome c.cut_part.result
    (λ part. (region_overlap region (match_fields es) ≡ Part)
    × ((axis : Axis) (at : ℕ) → IsSplitBy region part axis at → IsSplitBy region (match_fields es) axis at)))
    c.matches.ensures c.cut_part.ensures in
    some_more _ _ c.cut_part.result (λ part h axis at by. (search rules, h.0, h.1 axis at by)) cut
