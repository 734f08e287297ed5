use Rattle.std.proofs.Common.{◌≡◌, [], ◌++◌, drop, map}
use Rattle.serde_json.specs.View.{view}
use Rattle.fx_walk.specs.Pointer.{pointer}
use Rattle.fx_walk.specs.Lists.{entries_faults}
use Rattle.fx_walk.proofs.entries.entries_of.Given as goal

abbrev pub invariant-loop-item : goal.invariant-loop-item
invariant-loop-item g l =
    let faults = g.T.Entry.faults in
    let meaning = g.T.Entry.meaning in
    let name = g.T.Entry.name in
    record {
      index : l.index ≡ l.item-index;
      faults : entries_faults faults (λ d. name (meaning d)) [] (pointer l.path) 0 (map view l.items)
          ≡ entries_faults faults (λ d. name (meaning d)) l.names (pointer l.path) l.index
          (map view (drop l.index l.items));
      values : l.values.items ++ map meaning (map view (drop l.index l.items)) ≡ map meaning (map view l.items);
      names : l.names ++ map name (map meaning (map view (drop l.index l.items)))
          ≡ map name (map meaning (map view l.items));
    }
