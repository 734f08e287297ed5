use Rattle.std.proofs.Common.{◌≡◌, ◌+◌, [], map, drop, ◌∙◌, refl, ap, sym, arith}
use Rattle.std.proofs.lemmas.List.{drop_all, append-nil}
use Rattle.fx_walk.specs.Pointer.{pointer}
use Rattle.fx_walk.proofs.Faults.{exit, refuses_more, pointer-Item}
use Rattle.fx_walk.proofs.NextItems.{item_here, next_item, next_value}
use Rattle.fx_traffic.proofs.list.values_among.Goals as goal

pub returns-in_err-from_value_among : goal.returns-in_err-from_value_among
returns-in_err-from_value_among g c =
    let i = c.loop-item.invariant in
    let v = c.item-item.result in
    let here = item_here c.args.items.now c.loop-item.index c.loop-item.item-index v i.index (omega arith)
    c.item-item.is in
    exit _ _ _ _ c.from_residual.ensures (rw (
      i.faults,
      next_item (g.T.FromValueAmong.faults (map g.D.Named.name c.args.devices.now))
          (pointer c.args.path.now) c.loop-item.index c.args.items.now v here,
    )
    (refuses_more _ _ _ (rw pointer-Item at c.in_err-from_value_among.ensures)))

pub loop-item-preserved : goal.loop-item-preserved
loop-item-preserved g c =
    let i = c.loop-item.invariant in
    let v = c.item-item.result in
    let here = item_here c.args.items.now c.loop-item.index c.loop-item.item-index v i.index (omega arith)
    c.item-item.is in
    let ok = rw pointer-Item at c.in_ok-from_value_among.ensures in
    record {
      index = ap (λ n. n + 1) i.index;
      faults = i.faults ∙ next_item (g.T.FromValueAmong.faults (map g.D.Named.name c.args.devices.now))
          (pointer c.args.path.now) c.loop-item.index c.args.items.now v here ∙ rw ok.0 refl;
      values = rw (c.in_ok-push.ensures.items, ok.1)
          (sym (next_value (g.T.FromValueAmong.meaning (map g.D.Named.name c.args.devices.now)) c.loop-item.values.items
          c.loop-item.index c.args.items.now v here) ∙ i.values);
    }

pub returns : goal.returns
returns g c =
    let i = c.loop-item.invariant in
    let none : drop c.loop-item.index c.args.items.now ≡ [] =
    drop_all c.loop-item.index c.args.items.now (omega (arith, i.index)) in
    (i.faults ∙ rw none refl, c.from_vec.ensures ∙ rw (none, append-nil) at i.values)
