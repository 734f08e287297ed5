-- Verdicts by table: an entry for each collecting process and each layout, which is identified by its number.
use Rattle.std.specs.Prelude.{◌≡◌, ℕ, ◌<◌, ◌≤◌, List, [], map, length, Contains, Option, Some, None, slice_get, if◌then◌else◌}
use Rattle.std.specs.List.{AllByRecursion}
use Rattle.fx_boxes.specs.Boxes.{Bounds}
use Rattle.fx_layout.specs.Keys.{Layout}
use Rattle.fx_tables.specs.Limits.{layout_limit}
use Rattle.fx_tables.specs.Network.{Net, Holder, AggregationEntry, Process, at_places, exporters_of, aggregations_of}
use Rattle.fx_tables.specs.Ranks.{IsNetwork}
use Rattle.fx_tables.specs.Orders.{Descends}
use Rattle.fx_tables.specs.Matches.{HasEntries}
use Rattle.fx_leaf.specs.declared.verdict.Fate.TheVariants.{Never}
use Rattle.fx_leaf.specs.Overlaps.{region_overlap, match_fields}
use Rattle.fx_leaf.specs.Verdicts.{Verdict, verdict_of_both, verdict_of_all, overlap_verdict, sent_verdict, layout_reads, tally_verdict}

-- ---- layouts by number

-- layouts, and for each holder the index of its layout
pub record Numbering : Type 0 where
  pub layouts : List Layout
  pub numbers : List ℕ

abbrev pub or_first : Option ℕ → ℕ
or_first None = 0
or_first (Some n) = n

abbrev pub number_of_layout : Numbering → ℕ → ℕ
number_of_layout n holder = or_first (slice_get n.numbers holder)

-- each holder has the number of its layout
abbrev pub Numbers : Net → Numbering → Type 0
Numbers net n =
    (holder : ℕ) (h : Holder) → slice_get net.holders holder ≡ Some h → slice_get n.layouts (number_of_layout n holder)
    ≡ Some h.layout

-- ---- the table

-- for each collecting process a row, with an entry for each layout
abbrev pub Table : Type 0
Table = List (List Verdict)

abbrev pub or_never : Option Verdict → Verdict
or_never None = Some Never
or_never (Some v) = v

abbrev pub entry_in : Option (List Verdict) → ℕ → Verdict
entry_in None layout = Some Never
entry_in (Some row) layout = or_never (slice_get row layout)

abbrev pub entry : Table → ℕ → ℕ → Verdict
entry table process layout = entry_in (slice_get table process) layout

-- ---- the value of an entry, computed from the entries of the processes that this process feeds

abbrev pub taken_entry : Table → Net → Numbering → Bounds → Layout → AggregationEntry → Verdict
taken_entry table net n region layout a =
    if layout_reads net layout a
    then overlap_verdict (region_overlap region (match_fields a.matches))
    (sent_verdict (entry table) net (number_of_layout n a.holder)
    (exporters_of net (slice_get net.holders a.holder)))
    else Some Never

abbrev pub handled_entry : Table → Net → Numbering → Bounds → ℕ → Layout → Option Process → Verdict
handled_entry table net n region number layout None = Some Never
handled_entry table net n region number layout (Some process) =
    verdict_of_both (sent_verdict (entry table) net number (at_places net.exporters process.exporters))
    (verdict_of_all (map (taken_entry table net n region layout) process.aggregations))

abbrev pub entry_from : Table → Net → Numbering → Bounds → ℕ → ℕ → Layout → Verdict
entry_from table net n region process number layout =
    verdict_of_both (tally_verdict net layout process)
    (handled_entry table net n region number layout (slice_get net.processes process))

-- ---- what a plan provides

pub record Tables : Type 0 where
  pub net : Net
  pub order : List ℕ  -- its collecting processes, in the order in which their rows are filled
  pub numbering : Numbering

-- the invariant of such tables
pub record AreTables (t : Tables) : Type 0 where
  pub network : IsNetwork t.net
  pub falls : Descends t.net network.ranked.rank [] t.order
  pub whole : (process : ℕ) → process < length t.net.processes → Contains t.order process
  pub reports : t.net.report < length t.net.processes
  pub numbers : Numbers t.net t.numbering
  pub few : length t.numbering.layouts ≤ layout_limit
  pub entries : (process : ℕ) → AllByRecursion HasEntries (aggregations_of (slice_get t.net.processes process))
