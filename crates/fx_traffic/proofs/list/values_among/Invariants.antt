use Rattle.std.proofs.Common.{◌≡◌, ◌++◌, drop, map}
use Rattle.serde_json.specs.View.{view}
use Rattle.fx_walk.specs.Pointer.{pointer}
use Rattle.fx_walk.specs.Lists.{items_faults}
use Rattle.fx_traffic.proofs.list.values_among.Given as goal

abbrev pub invariant-loop-item : goal.invariant-loop-item
invariant-loop-item g l =
    let faults = g.T.FromValueAmong.faults (map g.D.Named.name l.devices) in
    let meaning = g.T.FromValueAmong.meaning (map g.D.Named.name l.devices) in
    record {
      index : l.index ≡ l.item-index;
      faults : items_faults faults (pointer l.path) 0 (map view l.items)
          ≡ items_faults faults (pointer l.path) l.index (map view (drop l.index l.items));
      values : l.values.items ++ map meaning (map view (drop l.index l.items)) ≡ map meaning (map view l.items);
    }
