use Rattle.std.proofs.Common.{◌≡◌, ◌∙◌, sym, ap}
use Rattle.fx_leaf.specs.declared.regions.Overlap.TheVariants.{Whole, Part}
use Rattle.fx_leaf.specs.Overlaps.{region_overlap, selection_overlap}
use Rattle.fx_leaf.proofs.PathSplits.{some_more, none_more, meets_held, selection_split}
use Rattle.fx_leaf.proofs.path.PathReader.split_at.Goals as goal

pub returns-in-Some-cut_behind_holder-clause-some : goal.returns-in-Some-cut_behind_holder-clause-some
returns-in-Some-cut_behind_holder-clause-some c = λ path meets.
    let reader = c.args.self.now in
    let all : selection_overlap reader.verdicts.region.now c.args.selection.now.region ≡ Whole =
    sym c.selection_overlap.ensures ∙ c.in-Whole.is in
    (c.in-Some-cut_behind_holder.ensures.some path
    (meets_held reader.verdicts.tables.now.net path reader.verdicts.region.now c.args.selection.now c.in-Some.holder
    reader.bounded c.in-Some.is all meets)).splits

pub returns-in-Some-region-clause-some : goal.returns-in-Some-region-clause-some
returns-in-Some-region-clause-some c =
    let reader = c.args.self.now in
    some_more _ _ c.bound.result (λ x. λ h. λ path. λ meets. selection_split reader.verdicts.tables.now.net path
    reader.verdicts.region.now c.in-Some-region.other c.args.selection.now c.in-Some.holder x.0 x.1 reader.bounded
    c.in-Some.is c.in-Some-region.is (sym c.selection_overlap.ensures ∙ c.in-Part.is) h meets) c.bound.ensures.some

pub returns-in-Some-region-clause-none : goal.returns-in-Some-region-clause-none
returns-in-Some-region-clause-none c =
    let reader = c.args.self.now in
    let cut : region_overlap reader.verdicts.region.now c.in-Some-region.other ≡ Part =
    ap (selection_overlap reader.verdicts.region.now) (sym c.in-Some-region.is) ∙ sym c.selection_overlap.ensures
    ∙ c.in-Part.is in
    none_more _ _ c.bound.result (λ none. absurd (none cut)) c.bound.ensures.none
