-- There are no more values than axes, and each has the bits of its part.
use Rattle.std.proofs.Common.{◌≡◌, ℕ, List, map, arith, subst, sym, ap, ◌∙◌, true}
use Rattle.std.specs.List.{list_all}
use Rattle.fx_layout.specs.declared.layout.Part.{Part}
use Rattle.fx_layout.specs.Keys.{Layout, Key, HasBits, can_stand, bits_on}
use Rattle.fx_layout.proofs.Layouts.{so_many, all_of, cut_has_bits}
use Rattle.fx_layout.proofs.PartByPart.{one_more}
use Rattle.fx_layout.proofs.key.Key.project_values.Goals as goal

pub push-requires : goal.push-requires
push-requires c = (
  omega arith,
  so_many _ _ _ _ c.loop-part.invariant c.loop-part-test.true
      c.parts-part-items.ensures.kept.ascends,
)

pub returns-clause-bits : goal.returns-clause-bits
returns-clause-bits c projected =
    let parts = c.parts-part-items in
    let stands : list_all can_stand c.args.layout.now ≡ true =
    subst (λ (l : Layout). list_all can_stand l ≡ true) parts.ensures.value parts.ensures.kept.stands in
    let own : HasBits c.args.self.now.layout c.args.self.now.values =
    subst (λ (k : Key). HasBits k.layout k.values) c.self.view_is c.self.invariant in
    let g : Part → ℕ = λ part. bits_on c.args.self.now part.axis part.bits in
    let all : c.loop-part.values-inside.items.items ≡ map g c.args.layout.now =
    all_of g _ _ _ c.loop-part.invariant c.loop-part-test.false ∙ ap (map g) parts.ensures.value in
    subst (λ (vs : List ℕ). HasBits c.args.layout.now vs) (sym all) (cut_has_bits _ _ c.args.layout.now own stands)

pub loop-part-preserved : goal.loop-part-preserved
loop-part-preserved c =
    let g : Part → ℕ = λ part. bits_on c.args.self.now part.axis part.bits in
    one_more g c.loop-part.part-index c.parts-part-items.result.now _ c.loop-part.values-inside.items.items _
    c.bits_on.result c.loop-part-test.true c.loop-part.invariant c.bits_on.ensures c.push.ensures.items
