use Rattle.std.proofs.Common.{◌∙◌, ◌++◌, ap, sym, subst, arith, get_or, take}
use Rattle.std.specs.List.{flat_map}
use Rattle.fx_elements.specs.declared.axis.Axis.TheVariants.{Source}
use Rattle.fx_elements.specs.Axes.{axes, axis_index}
use Rattle.fx_elements.proofs.EveryAxis.{index_at}
use Rattle.fx_layout.specs.Keys.{Layout}
use Rattle.fx_session.specs.Parts.{AllBefore, part_by}
use Rattle.fx_session.proofs.Keys.{parts_more}
use Rattle.fx_session.proofs.key.layout_of.Goals as goal

pub loop-axis-preserved : goal.loop-axis-preserved
loop-axis-preserved c =
    let i = c.loop-axis.axis-index in
    let axis = get_or axes i Source in (
      c.add_part-layout.ensures.value ∙ ap (λ (l : Layout). l ++ part_by axis (get_or c.args.bits.now c.index.result 0))
          c.loop-axis.invariant.0
          ∙ ap (λ n. flat_map (λ axis. part_by axis (get_or c.args.bits.now (axis_index axis) 0)) (take i axes)
          ++ part_by axis (get_or c.args.bits.now n 0)) c.index.ensures.place
          ∙ sym (parts_more (λ axis. part_by axis (get_or c.args.bits.now (axis_index axis) 0)) i (omega arith)),
      subst (AllBefore c.add_part-layout.result) (let at = index_at i (omega arith) in omega (arith, at))
          c.add_part-layout.ensures.before,
    )
