use Rattle.std.proofs.Common.{ap, ◌∙◌}
use Rattle.fx_plan.specs.Tables.{net_of}
use Rattle.fx_join.specs.PartTexts.{PartText}
use Rattle.fx_join.proofs.PartFaults.{certificate_fault, certificate_known_ok, lines_in_text}
use Rattle.fx_join.proofs.part_check.check_certificate.Goals as goal

pub returns-clause-ok : goal.returns-clause-ok
returns-clause-ok c =
    let lines = c.in_ok-lines.ensures.ok ∙ lines_in_text c.new.result.rest.now c.args.part.now.certificate
    c.new.result.calls (c.new.ensures.octets ∙ c.as_slice.ensures.value
    ∙ ap (λ (p : PartText). p.certificate) c.part.view_is) c.new.ensures.calls in
    certificate_known_ok (net_of c.args.documents.now.plan) c.args.documents.now.traffic _ c.args.part.now.certificate
    c.check-checked.result lines c.check-checked.ensures.certificate

pub returns-clause-err : goal.returns-clause-err
returns-clause-err c =
    let lines = c.in_ok-lines.ensures.ok ∙ lines_in_text c.new.result.rest.now c.args.part.now.certificate
    c.new.result.calls (c.new.ensures.octets ∙ c.as_slice.ensures.value
    ∙ ap (λ (p : PartText). p.certificate) c.part.view_is) c.new.ensures.calls in
    certificate_fault c.args.part.now c.args.documents.now.plan c.args.documents.now.traffic _
    c.check-checked.new.lines c.check-checked.result c.requires.network c.requires.traffic lines
    c.never_fails.ensures c.check-checked.ensures.err
