use Rattle.std.proofs.Common.{arith, get_or, ◌≡◌}
use Rattle.fx_traffic.proofs.TargetsInOrder.{next_path, regions_more}
use Rattle.fx_traffic.proofs.targets.add_paths.Goals as goal

pub paths-preserved : goal.paths-preserved
paths-preserved c =
    let i = c.paths.invariant in
    let paths = c.paths-paths.result.now in
    let here : c.as_slice.result.now ≡ get_or paths c.paths.index c.as_slice.result.now =
    rw c.as_slice.ensures c.index-paths-index.is in
    record {
      items = rw c.in_ok-push.ensures.items (next_path c.args.number c.region-region.result c.exempt-exempt.result paths
          c.paths.index c.as_slice.result.now c.paths.targets.items _ (omega arith) here i.items);
      regions = λ were. rw c.in_ok-push.ensures.items
          (regions_more c.paths.targets.items _ (i.regions were) c.far_corner-greatest.ensures.region);
    }
