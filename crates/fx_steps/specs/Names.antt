-- The names of a network's holders, by index.
use Rattle.std.specs.Prelude.{◌≡◌, ℕ, ◌<◌, List, length, Some, slice_get}
use Rattle.fx_tables.specs.declared.holder_name.HolderName.{HolderName}
use Rattle.fx_tables.specs.declared.holder_name.HolderName.TheVariants.{Cache, Aggregation as AggregationOf}
use Rattle.fx_tables.specs.Network.{Net, holder_place}
use Rattle.fx_tables.specs.Runnable.{IsHolder}

-- the name at this index is that of the holder at this index
pub record IsNamed (net : Net) (names : List HolderName) (holder : ℕ) : Type 0 where
  pub name : HolderName
  pub here : slice_get names holder ≡ Some name
  pub named : holder_place net name ≡ Some holder

-- each holder that a step can name is named
abbrev pub NameAll : Net → List HolderName → Type 0
NameAll net names = (holder : ℕ) → IsHolder net holder → IsNamed net names holder

-- ---- while the names are noted, one by one

-- every holder that was named still is
pub record Keep (net : Net) (old new : List HolderName) : Type 0 where
  pub size : length new ≡ length old
  pub named : (holder : ℕ) → IsNamed net old holder → IsNamed net new holder

-- the holder with this name is named
abbrev pub Note : Net → List HolderName → HolderName → Type 0
Note net names name = (holder : ℕ) → holder_place net name ≡ Some holder → holder < length names
    → IsNamed net names holder

abbrev pub device_of : HolderName → ℕ
device_of (Cache device cache) = device
device_of (AggregationOf device process aggregation) = device
