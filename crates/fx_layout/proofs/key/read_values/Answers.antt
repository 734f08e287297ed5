-- There are no more values than axes, and each has the bits of its part.
use Rattle.std.proofs.Common.{◌≡◌, ℕ, map, arith, subst, sym, ap, ◌∙◌, true}
use Rattle.std.specs.List.{list_all}
use Rattle.fx_elements.specs.Axes.{field, axis_width}
use Rattle.fx_boxes.specs.Boxes.{IsFields}
use Rattle.fx_layout.specs.declared.layout.Part.{Part}
use Rattle.fx_layout.specs.Keys.{Layout, HasBits, can_stand, leading_bits}
use Rattle.fx_layout.proofs.Layouts.{so_many, all_of, key_has_bits}
use Rattle.fx_layout.proofs.key.read_values.Goals as goal

pub push-requires : goal.push-requires
push-requires c = (
  omega arith,
  so_many _ _ _ _ c.loop-part.invariant c.loop-part-test.true
      c.parts-part-items.ensures.kept.ascends,
)

pub returns-clause-value : goal.returns-clause-value
returns-clause-value c =
    let g : Part → ℕ = λ part. leading_bits (axis_width part.axis) part.bits (field c.args.fields.now part.axis) in
    all_of g _ _ _ c.loop-part.invariant c.loop-part-test.false ∙ ap (map g) c.parts-part-items.ensures.value

pub returns-clause-bits : goal.returns-clause-bits
returns-clause-bits c =
    let parts = c.parts-part-items in
    let fields : IsFields c.args.fields.now = c.value_at-first.ensures.kept in
    let stands : list_all can_stand c.args.layout.now ≡ true =
    subst (λ (l : Layout). list_all can_stand l ≡ true) parts.ensures.value parts.ensures.kept.stands in
    let g : Part → ℕ = λ part. leading_bits (axis_width part.axis) part.bits (field c.args.fields.now part.axis) in
    let all = all_of g _ _ _ c.loop-part.invariant c.loop-part-test.false ∙ ap (map g) parts.ensures.value in
    subst (HasBits c.args.layout.now) (sym all) (key_has_bits c.args.layout.now c.args.fields.now stands fields)
