-- Where a region that is cut can be split.
use Rattle.std.specs.Prelude.{◌≡◌, ◌≢◌, ◌⊎◌, ℕ, ◌+◌, true, List, map, Contains, Some, None, slice_get}
use Rattle.fx_elements.specs.declared.axis.Axis.{Axis}
use Rattle.fx_elements.specs.Axes.{Fields, axis_index}
use Rattle.fx_boxes.specs.Boxes.{Bounds, holds, IsStrictlyInside}
use Rattle.fx_layout.specs.Keys.{Key, key_of}
use Rattle.fx_tables.specs.declared.traffic.Crossing.{Crossing}
use Rattle.fx_tables.specs.declared.observation.Selection.{Selection}
use Rattle.fx_tables.specs.Network.{Net, Point, AggregationEntry, points_of, aggregations_of, layout_of}
use Rattle.fx_base.specs.Entries.{entry_numbered}
use Rattle.fx_machine.specs.Acts.{Hold}
use Rattle.fx_tables.specs.Occurrences.{watches}
use Rattle.fx_leaf.specs.Fates.{acts_along}
use Rattle.fx_leaf.specs.SoundLeaves.{Uncut, Reached, can_read, matches_packet}
use Rattle.fx_leaf.specs.Overlaps.{low_at, high_at, match_fields}
use Rattle.fx_leaf.specs.Verdicts.{Verdict, SelectionVerdict, verdict_of_all}

-- the lower bound of a region, or its upper bound plus 1
abbrev pub IsBound : Bounds → Axis → ℕ → Type 0
IsBound b axis at = (at ≡ low_at b axis) ⊎ (at ≡ high_at b axis + 1)

-- a bound of the second region that is strictly inside the first
pub record IsSplitBy (region other : Bounds) (axis : Axis) (at : ℕ) : Type 0 where
  pub inside : IsStrictlyInside region (axis_index axis) at
  pub bound : IsBound other axis at

-- a selection process that would meet the packets of a path if it selected them and had a cache
pub record Meets (net : Net) (path : List Crossing) (s : Selection) : Type 0 where
  pub crossing : Crossing
  pub point : Point
  pub crosses : Contains path crossing
  pub there : Contains (points_of (entry_numbered net.devices crossing.device)) point
  pub watched : watches point crossing ≡ true
  pub among : Contains point.selections s

-- an aggregation that records of a region's packets reach, and whose key and match can be read from those records
pub record Reaches (net : Net) (path : List Crossing) (region : Bounds) (a : AggregationEntry) : Type 0 where
  pub fields : Fields
  pub process : ℕ
  pub key : Key
  pub here : holds region fields ≡ true
  pub reached : Reached net path fields process key
  pub among : Contains (aggregations_of (slice_get net.processes process)) a
  pub read : can_read net key a ≡ true

-- a bound, strictly inside the region, of something that cuts it
pub data IsSplit (net : Net) (path : List Crossing) (region : Bounds) (axis : Axis) (at : ℕ) : Type 0 where
  of_selection : (s : Selection) (other : Bounds) → Meets net path s → s.holder ≢ None → s.region ≡ Some other
      → (Uncut region (holds other) → ⊥) → IsSplitBy region other axis at → IsSplit net path region axis at
  of_match : (a : AggregationEntry) → Reaches net path region a → (Uncut region (matches_packet a.matches) → ⊥)
      → IsSplitBy region (match_fields a.matches) axis at → IsSplit net path region axis at

-- ---- what the parts mean

-- on this axis no bound of the second region is strictly inside the first
pub record NoSplitBy (region other : Bounds) (axis : Axis) : Type 0 where
  pub low : IsStrictlyInside region (axis_index axis) (low_at other axis) → ⊥
  pub high : IsStrictlyInside region (axis_index axis) (high_at other axis + 1) → ⊥

-- the combination of all these verdicts
abbrev pub joint_verdict : List SelectionVerdict → Verdict
joint_verdict verdicts = verdict_of_all (map (λ s. s.verdict) verdicts)

-- the least packet of the region is held by this holder
abbrev pub HeldAlong : Net → List Crossing → Bounds → ℕ → Type 0
HeldAlong net path region holder =
    Contains (acts_along net region.low path)
    (Hold holder (key_of (layout_of (slice_get net.holders holder)) region.low))
