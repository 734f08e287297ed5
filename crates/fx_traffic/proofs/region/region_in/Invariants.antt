use Rattle.std.proofs.Common.{◌≡◌, ℕ, ◌<◌, length, map, drop, get_or}
use Rattle.serde_json.specs.View.{view}
use Rattle.fx_elements.specs.Axes.{axes, axis_count}
use Rattle.fx_walk.specs.Pointer.{pointer}
use Rattle.fx_walk.specs.Walk.{row_faults}
use Rattle.fx_traffic.specs.Regions.{region_rows}
use Rattle.fx_traffic.proofs.Regions.{IsLowAt, IsHighAt, row_on}
use Rattle.fx_traffic.proofs.region.region_in.Given as goal

abbrev pub invariant-loop-axis : goal.invariant-loop-axis
invariant-loop-axis l = record {
  low_len : length l.low ≡ axis_count;
  high_len : length l.high ≡ axis_count;
  faults : row_faults region_rows (pointer l.path) (view l.object)
      ≡ row_faults (map row_on (drop l.axis-index axes)) (pointer l.path) (view l.object);
  lows : (k : ℕ) → k < l.axis-index → IsLowAt (view l.object) k (get_or l.low k 0);
  highs : (k : ℕ) → k < l.axis-index → IsHighAt (view l.object) k (get_or l.high k 0);
}
