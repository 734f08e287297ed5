use Rattle.std.proofs.Common.{◌≡◌, ◌+◌, [], drop, ◌∙◌, refl, ap, sym, arith}
use Rattle.std.proofs.lemmas.List.{drop_all}
use Rattle.fx_walk.specs.Pointer.{pointer}
use Rattle.fx_walk.proofs.Faults.{exit, refuses_more, pointer-Item}
use Rattle.fx_walk.proofs.NextItems.{item_here}
use Rattle.fx_config.proofs.NextFields.{next_field, next_layout}
use Rattle.fx_config.proofs.key.fields_of.Goals as goal

pub returns-in_err-field : goal.returns-in_err-field
returns-in_err-field c =
    let i = c.loop-item.invariant in
    let v = c.item-item.result in
    let here = item_here c.args.items.now c.loop-item.index c.loop-item.item-index v i.index (omega arith)
    c.item-item.is in
    exit _ _ _ _ c.from_residual.ensures (rw
    (i.faults, next_field c.loop-item.layout (pointer c.args.path.now) c.loop-item.index c.args.items.now v here)
    (refuses_more _ _ _ (rw pointer-Item at c.in_err-field.ensures)))

pub returns-in_err-layout : goal.returns-in_err-layout
returns-in_err-layout c =
    let i = c.loop-item.invariant in
    let v = c.item-item.result in
    let here = item_here c.args.items.now c.loop-item.index c.loop-item.item-index v i.index (omega arith)
    c.item-item.is in
    let field = rw pointer-Item at c.in_ok-field.ensures in
    exit _ _ _ _ c.from_residual-in_err-layout.ensures
    (rw (
      i.faults,
      next_field c.loop-item.layout (pointer c.args.path.now) c.loop-item.index c.args.items.now v
          here,
      field.0,
    ) (refuses_more _ _ _ (rw (pointer-Item, field.1) at c.in_err-layout.ensures)))

pub loop-item-preserved : goal.loop-item-preserved
loop-item-preserved c =
    let i = c.loop-item.invariant in
    let v = c.item-item.result in
    let here = item_here c.args.items.now c.loop-item.index c.loop-item.item-index v i.index (omega arith)
    c.item-item.is in
    let field = rw pointer-Item at c.in_ok-field.ensures in
    let layout = rw (pointer-Item, field.1) at c.in_ok-layout.ensures in
    record {
      index = ap (λ n. n + 1) i.index;
      faults = i.faults ∙ next_field c.loop-item.layout (pointer c.args.path.now) c.loop-item.index c.args.items.now v
          here ∙ rw (field.0, layout.0, layout.1) refl;
      layout = i.layout ∙ next_layout c.loop-item.layout c.loop-item.index c.args.items.now v here ∙ rw (layout.1) refl;
    }

pub returns : goal.returns
returns c =
    let i = c.loop-item.invariant in
    let none : drop c.loop-item.index c.args.items.now ≡ [] =
    drop_all c.loop-item.index c.args.items.now (omega (arith, i.index)) in
    (i.faults ∙ rw none refl, sym (i.layout ∙ rw none refl))
