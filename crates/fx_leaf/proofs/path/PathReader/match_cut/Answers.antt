use Rattle.std.proofs.Common.{◌≡◌, ◌∙◌, sym}
use Rattle.fx_leaf.specs.declared.regions.Overlap.TheVariants.{Whole}
use Rattle.fx_leaf.specs.Overlaps.{selection_overlap}
use Rattle.fx_leaf.proofs.PathSplits.{some_more, meets_held}
use Rattle.fx_leaf.proofs.path.PathReader.match_cut.Goals as goal

pub returns-in-Whole : goal.returns-in-Whole
returns-in-Whole c =
    let reader = c.args.self.now in
    let all : selection_overlap reader.verdicts.region.now c.args.selection.now.region ≡ Whole =
    sym c.selection_overlap.ensures ∙ c.in-Whole.is in
    some_more _ _ c.middle_cut_behind_holder.result
    (λ x. λ h. λ path. λ meets. h path (meets_held reader.verdicts.tables.now.net path reader.verdicts.region.now
    c.args.selection.now c.in_ok-holder.holder reader.bounded c.in_ok-holder.was all meets))
    c.middle_cut_behind_holder.ensures
