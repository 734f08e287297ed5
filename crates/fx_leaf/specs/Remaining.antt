-- The aggregations of a collecting process whose matches may accept packets of a region.
use Rattle.std.specs.Prelude.{◌≡◌, ◌⊎◌, ℕ, false, List, [], ◌∷◌, Some, slice_get}
use Rattle.fx_boxes.specs.Boxes.{Bounds, Holds}
use Rattle.fx_elements.specs.Axes.{Fields}
use Rattle.fx_tables.specs.Network.{AggregationEntry, Process, aggregations_of}
use Rattle.fx_leaf.specs.SoundLeaves.{matches_packet}

-- the aggregation's match accepts none of the region's packets
abbrev pub AcceptsNone : Bounds → AggregationEntry → Type 0
AcceptsNone region a = (f : Fields) → Holds region f → matches_packet a.matches f ≡ false

-- these aggregations in order, without some whose matches accept none of the region's packets
abbrev pub AreRemaining : Bounds → List AggregationEntry → List AggregationEntry → Type 0
AreRemaining region [] kept = kept ≡ []
AreRemaining region (a ∷ all) kept =
    (AcceptsNone region a × AreRemaining region all kept)
    ⊎ ((rest : List AggregationEntry) × (kept ≡ a ∷ rest) × AreRemaining region all rest)

-- a region, and a list of aggregations that remain for it
pub record RegionMatches : Type 0 where
  pub region : Bounds
  pub listed : List AggregationEntry

-- the list is right for its region
abbrev pub HasRemaining : List AggregationEntry → RegionMatches → Type 0
HasRemaining all r = AreRemaining r.region all r.listed

-- lists of aggregations by collecting process: those of the processes
abbrev pub AreAggregations : List Process → List (List AggregationEntry) → Type 0
AreAggregations processes lists =
    (process : ℕ) (all : List AggregationEntry) → slice_get lists process ≡ Some all → all
    ≡ aggregations_of (slice_get processes process)
