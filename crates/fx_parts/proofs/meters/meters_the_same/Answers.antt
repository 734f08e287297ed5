use Rattle.std.proofs.Common.{sym, ◌∙◌}
use Rattle.fx_parts.specs.Parts.{MetersTheSame}
use Rattle.fx_parts.proofs.Checked.{on_true}
use Rattle.fx_parts.proofs.Metered.{sees_found, if_ok}
use Rattle.fx_parts.proofs.meters.meters_the_same.Goals as goal

pub returns : goal.returns
returns c =
    let part = c.args.part.now in
    let whole = c.args.whole.now in
    let places = c.args.places.now in
    let inner = c.args.inner.now in
    let outer = c.args.outer.now in
    if_ok c.meters_alike.result c.meters_alike.ensures
    (λ b. λ e. on_true b (MetersTheSame part whole places inner outer)
    (λ h. sees_found part whole places inner outer (sym e ∙ h)))
