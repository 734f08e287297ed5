-- What cuts a region, traced from an entry without a verdict.
use Rattle.std.specs.Prelude.{◌≡◌, ◌⊎◌, ℕ, true, List, Contains, Option, Some, None, slice_get}
use Rattle.fx_boxes.specs.Boxes.{Bounds, holds}
use Rattle.fx_elements.specs.Axes.{Fields}
use Rattle.fx_layout.specs.Keys.{Layout, key_of}
use Rattle.fx_tables.specs.declared.traffic.Crossing.{Crossing}
use Rattle.fx_tables.specs.Network.{Net, Exporter, AggregationEntry, Process, at_places, exporters_of, layout_of}
use Rattle.fx_leaf.specs.declared.regions.Overlap.TheVariants.{Whole, Part}
use Rattle.fx_leaf.specs.declared.cause.Cause.{Cause}
use Rattle.fx_leaf.specs.declared.cause.Cause.TheVariants.{Split, Behind}
use Rattle.fx_leaf.specs.SoundLeaves.{Reached}
use Rattle.fx_leaf.specs.declared.split.MatchCut.{MatchCut}
use Rattle.fx_leaf.specs.Splits.{IsSplit, IsSplitBy}
use Rattle.fx_leaf.specs.Overlaps.{region_overlap, match_fields}
use Rattle.fx_leaf.specs.Tables.{Tables, Table, number_of_layout, entry}
use Rattle.fx_leaf.specs.Verdicts.{layout_reads}

-- one of these destinations leads to a collecting process that has no verdict for the layout of this number
pub record LeadsOn (table : Table) (net : Net) (number : ℕ) (destinations : List (Option ℕ)) (process : ℕ) : Type 0
  where
    pub link : ℕ
    pub among : Contains destinations (Some link)
    pub leads : slice_get net.links link ≡ Some process
    pub none : entry table process number ≡ None

-- one of these exporting processes sends to that collecting process
pub record SendsOn (table : Table) (net : Net) (number : ℕ) (exporters : List Exporter) (process : ℕ) : Type 0 where
  pub exporter : Exporter
  pub sends : Contains exporters exporter
  pub on : LeadsOn table net number exporter.destinations process

-- an exporting process of the holder sends to that collecting process
abbrev pub IsCauseByHolder : Tables → Table → ℕ → Cause → Type 0
IsCauseByHolder t table holder (Split axis at) = ⊥
IsCauseByHolder t table holder (Behind process number) =
    (number ≡ number_of_layout t.numbering holder)
    × SendsOn table t.net number (exporters_of t.net (slice_get t.net.holders holder)) process

-- an aggregation that can read records of the layout: its match cuts the region, or holds for all of it and the records
-- are sent on
abbrev pub IsCauseInMatch : Tables → Bounds → Table → Layout → AggregationEntry → Cause → Type 0
IsCauseInMatch t region table layout a (Split axis at) =
    (layout_reads t.net layout a ≡ true) × (region_overlap region (match_fields a.matches) ≡ Part)
    × IsSplitBy region (match_fields a.matches) axis at
IsCauseInMatch t region table layout a (Behind process number) =
    (layout_reads t.net layout a ≡ true) × (region_overlap region (match_fields a.matches) ≡ Whole)
    × IsCauseByHolder t table a.holder (Behind process number)

pub record IsCauseInMatches (t : Tables) (region : Bounds) (table : Table) (layout : Layout)
    (aggregations : List AggregationEntry) (cause : Cause) : Type 0 where
  pub aggregation : AggregationEntry
  pub among : Contains aggregations aggregation
  pub is_cause : IsCauseInMatch t region table layout aggregation cause

-- the collecting process forwards the records unchanged
abbrev pub IsCauseBySends : Tables → Table → ℕ → Process → Cause → Type 0
IsCauseBySends t table number p (Split axis at) = ⊥
IsCauseBySends t table number p (Behind process next) = (next ≡ number)
    × SendsOn table t.net number (at_places t.net.exporters p.exporters) process

abbrev pub IsCauseIn : Tables → Bounds → Table → ℕ → Layout → Process → Cause → Type 0
IsCauseIn t region table number layout p cause =
    IsCauseBySends t table number p cause ⊎ IsCauseInMatches t region table layout p.aggregations cause

-- the cause, for records of the layout of this number at the collecting process at this index
pub record IsCauseAt (t : Tables) (region : Bounds) (table : Table) (process number : ℕ) (cause : Cause) : Type 0 where
  pub layout : Layout
  pub at : Process
  pub layout_is : slice_get t.numbering.layouts number ≡ Some layout
  pub process_is : slice_get t.net.processes process ≡ Some at
  pub is_cause : IsCauseIn t region table number layout at cause

-- a record of the region's packets reaches the collecting process with the layout of a holder, which has this number
pub record Starts (t : Tables) (region : Bounds) (path : List Crossing) (process number : ℕ) : Type 0 where
  pub fields : Fields
  pub holder : ℕ
  pub here : holds region fields ≡ true
  pub layout_is : slice_get t.numbering.layouts number ≡ Some (layout_of (slice_get t.net.holders holder))
  pub reached : Reached t.net path fields process (key_of (layout_of (slice_get t.net.holders holder)) fields)

-- the layout exists, and the entry for it at the collecting process has no verdict
abbrev pub HasNoVerdict : Tables → Table → ℕ → ℕ → Type 0
HasNoVerdict t table process number = (entry table process number ≡ None)
    × ((layout : Layout) × (slice_get t.numbering.layouts number ≡ Some layout))

-- a record of the region's packets reaches a collecting process where a match cuts the region at one of the match's
-- bounds
pub record IsCutBy (t : Tables) (path : List Crossing) (region : Bounds) (cut : MatchCut) : Type 0 where
  pub starts : Starts t region path cut.process cut.number
  pub splits : IsSplit t.net path region cut.axis cut.at
