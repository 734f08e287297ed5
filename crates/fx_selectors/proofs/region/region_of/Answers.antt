use Rattle.std.proofs.Common.{◌∙◌, ap}
use Rattle.fx_selectors.specs.Selection as selection
use Rattle.fx_selectors.proofs.SelectedFields.{some_selects, none_selects}
use Rattle.fx_selectors.proofs.region.region_of.Goals as goal

pub returns-clause-some : goal.returns-clause-some
returns-clause-some c =
    some_selects c.args.process.now c.region_within.result
    (c.region_within.ensures ∙ ap selection.region_within
    (c.bounds_of-2.view_is ∙ c.bounds_of.ensures ∙ ap selection.bounds_of c.as_slice.ensures))

pub returns-clause-none : goal.returns-clause-none
returns-clause-none c =
    none_selects c.args.process.now c.region_within.result
    (c.region_within.ensures ∙ ap selection.region_within
    (c.bounds_of-2.view_is ∙ c.bounds_of.ensures ∙ ap selection.bounds_of c.as_slice.ensures))
