use Rattle.std.proofs.Common.{◌≡◌, ◌+◌, [], drop, ◌∙◌, refl, ap, sym, arith}
use Rattle.std.proofs.lemmas.List.{drop_all, append-nil}
use Rattle.fx_walk.specs.Pointer.{pointer}
use Rattle.fx_config.specs.CacheFields.{cache_field_faults, cache_field_of}
use Rattle.fx_walk.proofs.Faults.{exit, pointer-Item, refuses_more}
use Rattle.fx_walk.proofs.NextItems.{item_here, next_entry, next_value}
use Rattle.fx_config.proofs.cache_field.fields_of.Goals as goal

pub loop-item-preserved : goal.loop-item-preserved
loop-item-preserved c =
    let i = c.loop-item.invariant in
    let v = c.item-item.result in
    let here = item_here c.args.items.now c.loop-item.index c.loop-item.item-index v i.index (omega arith)
    c.item-item.is in
    let ok = rw pointer-Item at c.in_ok-read_field.ensures.reads in
    record {
      index = ap (λ n. n + 1) i.index;
      faults = i.faults ∙ next_entry (cache_field_faults c.args.immediate)
          (λ d. (cache_field_of c.args.immediate d).name) c.loop-item.names (pointer c.args.path.now) c.loop-item.index
          c.args.items.now v here ∙ rw (ok.0, c.in_ok-read_field.ensures.names) refl;
      fields = rw (c.in_ok-push.ensures.items, ok.1)
          (sym (next_value (cache_field_of c.args.immediate) c.loop-item.fields.items c.loop-item.index c.args.items.now
          v here) ∙ i.fields);
    }

pub returns-in_err-read_field : goal.returns-in_err-read_field
returns-in_err-read_field c =
    let i = c.loop-item.invariant in
    let v = c.item-item.result in
    let here = item_here c.args.items.now c.loop-item.index c.loop-item.item-index v i.index (omega arith)
    c.item-item.is in
    let next = next_entry (cache_field_faults c.args.immediate) (λ d. (cache_field_of c.args.immediate d).name)
    c.loop-item.names (pointer c.args.path.now) c.loop-item.index c.args.items.now v here in
    exit _ _ _ _ c.from_residual.ensures (rw (i.faults ∙ next)
    (refuses_more _ _ _ (rw pointer-Item at c.in_err-read_field.ensures.reads)))

pub returns : goal.returns
returns c =
    let i = c.loop-item.invariant in
    let none : drop c.loop-item.index c.args.items.now ≡ [] =
    drop_all c.loop-item.index c.args.items.now (omega (arith, i.index)) in
    (i.faults ∙ rw none refl, c.from_vec.ensures ∙ rw (none, append-nil) at i.fields)
