-- How much of a region passes a test of packets: the whole, nothing, or only a part.
use Rattle.std.specs.Prelude.{◌≡◌, ℕ, ◌+◌, ◌-◌, ◌*◌, ◌^◌, Bool, true, false, ◌&&◌, nat_le, nat_lt, max, min, List, [], ◌∷◌, map, Option, Some, None, if◌then◌else◌, slice_index, ◌==◌}
use Rattle.std.specs.List.{list_all, list_any}
use Rattle.fx_elements.specs.declared.axis.Axis.{Axis}
use Rattle.fx_elements.specs.Axes.{Fields, axes, tops, axis_index, axis_width, same_axis, field}
use Rattle.fx_boxes.specs.Boxes.{Bounds, holds}
use Rattle.fx_layout.specs.Keys.{leading_bits}
use Rattle.fx_tables.specs.declared.aggregation.MatchEntry.{MatchEntry}
use Rattle.fx_leaf.specs.declared.regions.Overlap.{Overlap}
use Rattle.fx_leaf.specs.declared.regions.Overlap.TheVariants.{Whole, Part, Nothing}
use Rattle.fx_leaf.specs.SoundLeaves.{Uncut}

abbrev pub low_at : Bounds → Axis → ℕ
low_at b axis = slice_index b.low (axis_index axis)

abbrev pub high_at : Bounds → Axis → ℕ
high_at b axis = slice_index b.high (axis_index axis)

-- the intersection of two regions
abbrev pub common : Bounds → Bounds → Bounds
common a b = record {
  low = map (λ axis. max (low_at a axis) (low_at b axis)) axes;
  high =
      map (λ axis. min (high_at a axis) (high_at b axis)) axes;
}

abbrev pub is_empty : Bounds → Bool
is_empty b = list_any (λ axis. nat_lt (high_at b axis) (low_at b axis)) axes

-- on each axis the first region is within the second
abbrev pub is_within : Bounds → Bounds → Bool
is_within a b = list_all (λ axis. nat_le (low_at b axis) (low_at a axis) && nat_le (high_at a axis) (high_at b axis))
    axes

-- how much of a region is also in the other: only a part if the other cuts it
abbrev pub region_overlap : Bounds → Bounds → Overlap
region_overlap region other = if is_empty (common region other) then Nothing else if is_within region other then Whole
    else Part

-- how much of a region a selection process selects; the process selects either no packet or the packets of another
-- region
abbrev pub selection_overlap : Bounds → Option Bounds → Overlap
selection_overlap region None = Nothing
selection_overlap region (Some other) = region_overlap region other

-- ---- matches as regions

abbrev pub all_fields : Bounds
all_fields = record { low = map (λ axis. 0) axes; high = tops }

abbrev pub begins_with : MatchEntry → Fields → Bool
begins_with e fields = leading_bits (axis_width e.axis) e.bits (field fields e.axis) == e.value

-- the values of an axis that begin with the bits of an entry
abbrev pub entry_low : MatchEntry → ℕ
entry_low e = e.value * 2 ^ (axis_width e.axis - e.bits)

abbrev pub entry_high : MatchEntry → ℕ
entry_high e = entry_low e + (2 ^ (axis_width e.axis - e.bits) - 1)

abbrev pub entry_fields : MatchEntry → Bounds
entry_fields e = record {
  low = map (λ axis. if same_axis axis e.axis then entry_low e else 0) axes;
  high = map (λ axis. if same_axis axis e.axis then entry_high e else slice_index tops (axis_index axis)) axes;
}

-- the fields that satisfy a whole match
abbrev pub match_fields : List MatchEntry → Bounds
match_fields [] = all_fields
match_fields (e ∷ es) = common (entry_fields e) (match_fields es)

-- ---- what an overlap means

-- the overlap is how much of the region passes the test
pub record IsOverlap (region : Bounds) (test : Fields → Bool) (overlap : Overlap) : Type 0 where
  pub whole : overlap ≡ Whole → (fields : Fields) → holds region fields ≡ true → test fields ≡ true
  pub nothing : overlap ≡ Nothing → (fields : Fields) → holds region fields ≡ true → test fields ≡ false
  pub part : overlap ≡ Part → Uncut region test → ⊥
