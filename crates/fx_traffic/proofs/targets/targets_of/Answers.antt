use Rattle.std.proofs.Common.{arith}
use Rattle.fx_traffic.proofs.TargetsInOrder.{next_class}
use Rattle.fx_traffic.proofs.targets.targets_of.Goals as goal

pub classes-preserved : goal.classes-preserved
classes-preserved c =
    let i = c.classes.invariant in
    record {
      items = next_class c.args.classes.now c.classes.index c.index-classes-index.result c.classes.targets.items _ _
          (omega arith) c.index-classes-index.is c.in_ok-add_paths.ensures.items i.items;
      regions = c.in_ok-add_paths.ensures.regions i.regions;
    }
