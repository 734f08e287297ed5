use Rattle.std.proofs.Common.{◌∙◌, [], Option, sym, ap}
use Rattle.fx_tables.specs.Network.{Exporter, before}
use Rattle.fx_leaf.specs.Reach.{marks_by, marks_to}
use Rattle.fx_leaf.proofs.CausesAt.{past_too, there_too}
use Rattle.fx_leaf.proofs.reach.mark_by_place.Goals as goal

pub returns-in_default : goal.returns-in_default
returns-in_default c =
    let net = c.args.net.now in
    sym (ap (λ (e : Option Exporter). marks_by net c.args.layouts c.args.marks.now (before e []))
    (past_too c.exporters.result.now net.exporters c.args.index c.exporters.ensures c.in_default.ensures.lookup.3))

pub returns-in-Some : goal.returns-in-Some
returns-in-Some c =
    let net = c.args.net.now in
    let exporter = c.in-Some.exporter.now in
    let at = c.in-Some.ensures.lookup.3 in
    c.mark_to.ensures ∙ ap (marks_to net c.args.layouts c.args.marks.now) c.destinations.ensures
    ∙ sym (ap (λ (e : Option Exporter). marks_by net c.args.layouts c.args.marks.now (before e []))
    (there_too c.exporters.result.now net.exporters c.args.index exporter c.exporters.ensures at.0 (at.1 exporter)))
