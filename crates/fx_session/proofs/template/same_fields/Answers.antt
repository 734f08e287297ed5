use Rattle.std.proofs.Common.{◌∙◌, sym, arith}
use Rattle.fx_session.proofs.TemplateSteps.{same_fields-apart, same_fields-differ, same_fields-agree, same_fields-end}
use Rattle.fx_session.proofs.template.same_fields.Goals as goal

pub returns-then-a-b : goal.returns-then-a-b
returns-then-a-b c = sym (same_fields-apart c.args.a.now c.args.b.now c.if-a-b.true)

pub returns-then-not-same_field : goal.returns-then-not-same_field
returns-then-not-same_field c = sym (c.loop-index.invariant
    ∙ same_fields-differ c.args.a.now c.args.b.now c.loop-index.index _ _ _ (omega arith) (omega arith)
    c.same_field.ensures c.if-not-same_field.true)

pub loop-index-preserved : goal.loop-index-preserved
loop-index-preserved c = c.loop-index.invariant
    ∙ same_fields-agree c.args.a.now c.args.b.now c.loop-index.index _ _ _ (omega arith) (omega arith)
    c.same_field.ensures c.if-not-same_field.false

pub returns : goal.returns
returns c = sym (c.loop-index.invariant
    ∙ same_fields-end c.args.a.now c.args.b.now c.loop-index.index (omega arith) (omega arith))
