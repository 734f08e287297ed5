use Rattle.std.proofs.Common.{◌∙◌, sym, arith}
use Rattle.fx_elements.specs.Axes.{axis_width, field}
use Rattle.fx_layout.specs.Keys.{leading_bits}
use Rattle.fx_layout.specs.declared.layout.Part.{Part}
use Rattle.fx_machine.proofs.SameValues.{one_same, one_differs, all_same, not_as_many}
use Rattle.fx_machine.proofs.intake.has_values.Goals as goal

pub returns-then-values-parts : goal.returns-then-values-parts
returns-then-values-parts c =
    let value = λ (part : Part). leading_bits (axis_width part.axis) part.bits (field c.args.fields.now part.axis) in
    sym (not_as_many value c.args.values.now c.args.parts.now c.if-values-parts.true)

pub loop-index-preserved : goal.loop-index-preserved
loop-index-preserved c =
    let value = λ (part : Part). leading_bits (axis_width part.axis) part.bits (field c.args.fields.now part.axis) in
    c.loop-index.invariant ∙ one_same value c.args.values.now c.args.parts.now c.loop-index.index _
    c.loop-index-test.true (omega (arith, c.loop-index-test.true, c.if-values-parts.false))
    (c.if-values-index.false ∙ c.value_for.ensures)

pub returns-then-values-index : goal.returns-then-values-index
returns-then-values-index c =
    let value = λ (part : Part). leading_bits (axis_width part.axis) part.bits (field c.args.fields.now part.axis) in
    sym (c.loop-index.invariant ∙ one_differs value c.args.values.now c.args.parts.now c.loop-index.index _
    c.loop-index-test.true (omega (arith, c.loop-index-test.true, c.if-values-parts.false))
    (λ same. c.if-values-index.true (same ∙ sym c.value_for.ensures)))

pub returns : goal.returns
returns c =
    let value = λ (part : Part). leading_bits (axis_width part.axis) part.bits (field c.args.fields.now part.axis) in
    sym (c.loop-index.invariant ∙ all_same value c.args.values.now c.args.parts.now c.loop-index.index
    c.loop-index-test.false (omega (arith, c.loop-index-test.false, c.if-values-parts.false)))
