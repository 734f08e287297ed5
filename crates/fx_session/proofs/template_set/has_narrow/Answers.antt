use Rattle.std.proofs.Common.{◌∙◌, sym}
use Rattle.fx_session.proofs.TemplateSteps.{has_narrow-here, has_narrow-on, has_narrow-end}
use Rattle.fx_session.proofs.template_set.has_narrow.Goals as goal

pub returns-then-is_narrow : goal.returns-then-is_narrow
returns-then-is_narrow c = sym (c.loop-field.invariant
    ∙ has_narrow-here c.args.fields.now c.loop-field.field-index _ _ c.loop-field-test.true c.is_narrow.ensures
    c.if-is_narrow.true)

pub loop-field-preserved : goal.loop-field-preserved
loop-field-preserved c = c.loop-field.invariant
    ∙ has_narrow-on c.args.fields.now c.loop-field.field-index _ _ c.loop-field-test.true c.is_narrow.ensures
    c.if-is_narrow.false

pub returns : goal.returns
returns c = sym (c.loop-field.invariant
    ∙ has_narrow-end c.args.fields.now c.loop-field.field-index c.loop-field-test.false)
