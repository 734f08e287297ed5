use Rattle.std.proofs.Common.{◌∙◌, sym, ap}
use Rattle.fx_leaf.specs.Reach.{marks_at, marks_behind}
use Rattle.fx_leaf.proofs.CausesAt.{past_too, there_too}
use Rattle.fx_leaf.proofs.reach.mark_behind.Goals as goal

pub returns-in_default-get : goal.returns-in_default-get
returns-in_default-get c =
    let net = c.args.net.now in
    sym (ap (marks_behind net c.args.layouts c.args.marks.now) c.in-Some.is
    ∙ ap (marks_at c.args.layouts c.args.marks.now)
    (past_too c.links.result.now net.links c.in-Some.link c.links.ensures c.in_default-get.ensures.lookup.3))

pub returns-in-Some-get : goal.returns-in-Some-get
returns-in-Some-get c =
    let net = c.args.net.now in
    let process = c.in-Some-get.process.now in
    let at = c.in-Some-get.ensures.lookup.3 in
    c.mark_at.ensures
    ∙ sym (ap (marks_behind net c.args.layouts c.args.marks.now) c.in-Some.is
    ∙ ap (marks_at c.args.layouts c.args.marks.now)
    (there_too c.links.result.now net.links c.in-Some.link process c.links.ensures at.0 (at.1 process)))
