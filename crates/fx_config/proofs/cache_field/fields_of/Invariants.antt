use Rattle.std.proofs.Common.{◌≡◌, [], ◌++◌, drop, map}
use Rattle.serde_json.specs.View.{view}
use Rattle.fx_walk.specs.Pointer.{pointer}
use Rattle.fx_walk.specs.Lists.{entries_faults}
use Rattle.fx_config.specs.CacheFields.{cache_field_faults, cache_field_of}
use Rattle.fx_config.proofs.cache_field.fields_of.Given as goal

abbrev pub invariant-loop-item : goal.invariant-loop-item
invariant-loop-item l =
    let faults = cache_field_faults l.immediate in
    let meaning = cache_field_of l.immediate in
    record {
      index : l.index ≡ l.item-index;
      faults : entries_faults faults (λ d. (meaning d).name) [] (pointer l.path) 0 (map view l.items)
          ≡ entries_faults faults (λ d. (meaning d).name) l.names (pointer l.path) l.index
          (map view (drop l.index l.items));
      fields : l.fields.items ++ map meaning (map view (drop l.index l.items)) ≡ map meaning (map view l.items);
    }
