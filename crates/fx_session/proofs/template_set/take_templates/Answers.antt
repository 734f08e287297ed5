use Rattle.std.proofs.Common.{◌∙◌}
use Rattle.fx_session.proofs.TemplateSteps.{template_set-more, template_set-refused, template_set-padding}
use Rattle.fx_session.proofs.template_set.take_templates.Goals as goal

pub loop-rest-preserved : goal.loop-rest-preserved
loop-rest-preserved g c = c.loop-rest.invariant
    ∙ template_set-more c.loop-rest.templates c.args.kind c.loop-rest.rest.now _ c.loop-rest-test.true
    c.in-Ok.ensures.done

pub returns-in-Err : goal.returns-in-Err
returns-in-Err g c = λ ne. c.loop-rest.invariant
    ∙ template_set-refused c.loop-rest.templates c.args.kind c.loop-rest.rest.now _ c.loop-rest-test.true
    (c.in-Err.ensures.done ne)

pub returns : goal.returns
returns g c = c.loop-rest.invariant ∙ template_set-padding c.loop-rest.templates c.args.kind c.loop-rest.rest.now
    c.loop-rest-test.false
