use Rattle.std.proofs.Common.{◌≡◌, ◌∙◌, false, true, refl}
use Rattle.fx_boxes.specs.Boxes.{Bounds}
use Rattle.fx_selectors.proofs.AnyFieldsWithin.{between_with, high_fields, low_fields, none_within}
use Rattle.fx_selectors.proofs.region.region_within.Goals as goal

pub returns-in_err-low : goal.returns-in_err-low
returns-in_err-low c =
    let bounds : Bounds = record { low = c.args.low; high = c.args.high } in
    c.from_residual.ensures ∙ none_within bounds
    (λ h. let no : false ≡ true = c.in_err-low.ensures.exact.1 (low_fields bounds h) in absurd (cc))

pub returns-in_err-high : goal.returns-in_err-high
returns-in_err-high c =
    let bounds : Bounds = record { low = c.args.low; high = c.args.high } in
    c.from_residual-in_err-high.ensures ∙ none_within bounds
    (λ h. let no : false ≡ true = c.in_err-high.ensures.exact.1 (high_fields bounds h) in absurd (cc))

pub returns : goal.returns
returns c =
    let bounds : Bounds = record { low = c.args.low; high = c.args.high } in
    between_with bounds c.between.result _ _ c.in_ok-low.ensures.some c.in_ok-high.ensures.some
    (c.in_ok-high.ensures.exact.0 refl) c.between.ensures.exact c.between.ensures.value
