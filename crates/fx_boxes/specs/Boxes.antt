-- Sets of fields that are a range on each axis.
use Rattle.std.specs.Prelude.{ℕ, ◌≤◌, ◌<◌, List, slice_index, slice_set, ◌-◌, Bool, ◌&&◌, nat_le}
use Rattle.std.specs.List.{list_all}
use Rattle.fx_elements.specs.Axes.{Fields, axis_count, axis_index, axes, tops}

-- a value on each axis, none above the greatest
abbrev pub IsFields : Fields → Type 0
IsFields f = (k : ℕ) → k < axis_count → slice_index f k ≤ slice_index tops k

-- the least and the greatest value on each axis
pub record Bounds : Type 0 where
  pub low : List ℕ
  pub high : List ℕ

-- low and high values on each axis, in order, and none above the greatest
abbrev pub IsRegion : Bounds → Type 0
IsRegion b = (k : ℕ) → k < axis_count → (slice_index b.low k ≤ slice_index b.high k)
    × (slice_index b.high k ≤ slice_index tops k)

-- the fields are in the region
abbrev pub Holds : Bounds → Fields → Type 0
Holds b f = (k : ℕ) → k < axis_count → (slice_index b.low k ≤ slice_index f k)
    × (slice_index f k ≤ slice_index b.high k)

-- the value at index k is from its low to its high
abbrev pub is_between : Bounds → Fields → ℕ → Bool
is_between b f k = nat_le (slice_index b.low k) (slice_index f k) && nat_le (slice_index f k) (slice_index b.high k)

-- the same as a boolean: the value on each axis is from its low to its high
abbrev pub holds : Bounds → Fields → Bool
holds b f = list_all (λ axis. is_between b f (axis_index axis)) axes

-- a split at this value leaves values on both sides
abbrev pub IsStrictlyInside : Bounds → ℕ → ℕ → Type 0
IsStrictlyInside b k at = (slice_index b.low k < at) × (at ≤ slice_index b.high k)

-- every element of the first region is in the second
abbrev pub IsInside : Bounds → Bounds → Type 0
IsInside a b = (f : Fields) → Holds a f → Holds b f

-- no element is in both regions
abbrev pub IsDisjoint : Bounds → Bounds → Type 0
IsDisjoint a b = (f : Fields) → Holds a f → Holds b f → ⊥

-- the part with values below `at` on the axis with index k
abbrev pub below_part : Bounds → ℕ → ℕ → Bounds
below_part b k at = record { low = b.low; high = slice_set b.high k (at - 1) }

-- the part with values of at least `at` on the axis with index k
abbrev pub above_part : Bounds → ℕ → ℕ → Bounds
above_part b k at = record { low = slice_set b.low k at; high = b.high }
