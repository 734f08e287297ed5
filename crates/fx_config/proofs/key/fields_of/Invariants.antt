use Rattle.std.proofs.Common.{◌≡◌, [], drop, map}
use Rattle.serde_json.specs.View.{view}
use Rattle.fx_walk.specs.Pointer.{pointer}
use Rattle.fx_config.specs.Keys.{fields_faults, with_fields}
use Rattle.fx_config.proofs.key.fields_of.Given as goal

abbrev pub invariant-loop-item : goal.invariant-loop-item
invariant-loop-item l =
    record {
      index : l.index ≡ l.item-index;
      faults : fields_faults [] (pointer l.path) 0 (map view l.items)
          ≡ fields_faults l.layout (pointer l.path) l.index (map view (drop l.index l.items));
      layout : with_fields [] (map view l.items) ≡ with_fields l.layout (map view (drop l.index l.items));
    }
