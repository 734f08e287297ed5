use Rattle.std.proofs.Common.{◌∙◌, sym}
use Rattle.fx_wire.proofs.RecordSteps.{after_record-more, after_record-cut, after_record-all}
use Rattle.fx_wire.proofs.value.cut_record.Goals as goal

pub returns-in-None : goal.returns-in-None
returns-in-None c = sym (c.loop-field.invariant
    ∙ after_record-cut c.args.fields.now c.loop-field.field-index _ c.loop-field.rest.now c.loop-field-test.true
    c.in-None.ensures)

pub loop-field-preserved : goal.loop-field-preserved
loop-field-preserved c = c.loop-field.invariant
    ∙ after_record-more c.args.fields.now c.loop-field.field-index _ c.loop-field.rest.now _ c.loop-field-test.true
    c.in-Some.ensures

pub returns : goal.returns
returns c = sym (c.loop-field.invariant
    ∙ after_record-all c.args.fields.now c.loop-field.field-index c.loop-field.rest.now c.loop-field-test.false)
