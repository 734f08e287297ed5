use Rattle.std.proofs.Common.{◌≡◌, [], ◌++◌, drop, map}
use Rattle.serde_json.specs.View.{view}
use Rattle.fx_walk.specs.Pointer.{pointer}
use Rattle.fx_walk.specs.Lists.{entries_faults}
use Rattle.fx_traffic.specs.Classes.{class_faults, class_name, class_of}
use Rattle.fx_traffic.proofs.class.classes_of.Given as goal

abbrev pub invariant-loop-item : goal.invariant-loop-item
invariant-loop-item g l =
    let faults = class_faults (map g.T.Named.name l.devices) in
    let meaning = class_of (map g.T.Named.name l.devices) in
    record {
      index : l.index ≡ l.item-index;
      faults : entries_faults faults class_name [] (pointer l.path) 0 (map view l.items)
          ≡ entries_faults faults class_name l.names (pointer l.path) l.index (map view (drop l.index l.items));
      classes : l.classes.items ++ map meaning (map view (drop l.index l.items)) ≡ map meaning (map view l.items);
    }
