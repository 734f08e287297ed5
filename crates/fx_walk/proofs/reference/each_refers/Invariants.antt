use Rattle.std.proofs.Common.{◌≡◌, drop}
use Rattle.fx_walk.specs.Pointer.{pointer}
use Rattle.fx_walk.specs.Lists.{items_faults}
use Rattle.fx_walk.proofs.reference.each_refers.Given as goal

abbrev pub invariant-loop-item : goal.invariant-loop-item
invariant-loop-item g l =
    let faults = g.T.Refers.faults l.known in
    record {
      index : l.index ≡ l.item-index;
      faults : items_faults faults (pointer l.path) 0 l.items
          ≡ items_faults faults (pointer l.path) l.index (drop l.index l.items);
    }
