-- The common fate of all packets of a region, computed from the layouts of their records if nothing cuts the region.
use Rattle.std.specs.Prelude.{ℕ, zero, suc, ◌+◌, Bool, true, false, ◌&&◌, ◌==◌, List, [], ◌∷◌, ◌++◌, map, length, Option, Some, None, slice_get, if◌then◌else◌}
use Rattle.std.specs.List.{list_all}
use Rattle.fx_boxes.specs.Boxes.{Bounds}
use Rattle.fx_layout.specs.Keys.{Layout, reads, refines}
use Rattle.fx_tables.specs.declared.observation.Selection.{Selection}
use Rattle.fx_tables.specs.declared.traffic.Crossing.{Crossing}
use Rattle.fx_tables.specs.Network.{Net, Point, Exporter, AggregationEntry, Process, points_of, at_places, exporters_of, layout_of}
use Rattle.fx_base.specs.Entries.{entry_numbered}
use Rattle.fx_tables.specs.Occurrences.{watches}
use Rattle.fx_leaf.specs.declared.regions.Overlap.{Overlap}
use Rattle.fx_leaf.specs.declared.regions.Overlap.TheVariants.{Whole, Part, Nothing}
use Rattle.fx_leaf.specs.declared.verdict.Fate.{Fate}
use Rattle.fx_leaf.specs.declared.verdict.Fate.TheVariants.{Never, Once, Unassigned}
use Rattle.fx_leaf.specs.Fates.{both, either}
use Rattle.fx_leaf.specs.PathSelections.{PathSelection}
use Rattle.fx_leaf.specs.Overlaps.{region_overlap, selection_overlap, match_fields}

-- the fate of all packets of a region, or none if something cuts the region
abbrev pub Verdict : Type 0
Verdict = Option Fate

-- ---- combining verdicts: if one part is cut, so is the whole

abbrev pub verdict_of_both : Verdict → Verdict → Verdict
verdict_of_both None w = None
verdict_of_both (Some f) None = None
verdict_of_both (Some f) (Some g) = Some (both f g)

abbrev pub verdict_of_all : List Verdict → Verdict
verdict_of_all [] = Some Never
verdict_of_all (v ∷ vs) = verdict_of_both v (verdict_of_all vs)

abbrev pub verdict_of_either : Verdict → Verdict → Verdict
verdict_of_either None w = None
verdict_of_either (Some f) None = None
verdict_of_either (Some f) (Some g) = Some (either f g)

abbrev pub verdict_of_one : List Verdict → Verdict
verdict_of_one [] = Some Never
verdict_of_one (v ∷ []) = v
verdict_of_one (v ∷ w ∷ vs) = verdict_of_either v (verdict_of_one (w ∷ vs))

-- the verdict after a test, by how much of the region passes it
abbrev pub overlap_verdict : Overlap → Verdict → Verdict
overlap_verdict Part v = None
overlap_verdict Whole v = v
overlap_verdict Nothing v = Some Never

-- ---- the verdict on records of a layout, given the verdicts at collecting processes

-- verdicts at each collecting process, on records of layouts in some representation
abbrev pub At : Type 0 → Type 0
At L = ℕ → L → Verdict

abbrev pub VerdictAt : Type 0
VerdictAt = At Layout

abbrev pub process_verdict : {L : Type 0} → At L → L → Option ℕ → Verdict
process_verdict at layout None = Some Never
process_verdict at layout (Some process) = at process layout

abbrev pub destination_verdict : {L : Type 0} → At L → Net → L → Option ℕ → Verdict
destination_verdict at net layout None = Some Never
destination_verdict at net layout (Some link) = process_verdict at layout (slice_get net.links link)

abbrev pub send_verdict : {L : Type 0} → At L → Net → L → Exporter → Verdict
send_verdict at net layout exporter =
    if exporter.parallel
    then verdict_of_all (map (destination_verdict at net layout) exporter.destinations)
    else verdict_of_one (map (destination_verdict at net layout) exporter.destinations)

-- each of these exporting processes sends the records
abbrev pub sent_verdict : {L : Type 0} → At L → Net → L → List Exporter → Verdict
sent_verdict at net layout exporters = verdict_of_all (map (send_verdict at net layout) exporters)

-- a holder's records have its layout
abbrev pub holder_verdict : VerdictAt → Net → ℕ → Verdict
holder_verdict at net holder = sent_verdict at net (layout_of (slice_get net.holders holder))
    (exporters_of net (slice_get net.holders holder))

-- an aggregation's key and match can be read from a layout
abbrev pub layout_reads : Net → Layout → AggregationEntry → Bool
layout_reads net layout a =
    refines layout (layout_of (slice_get net.holders a.holder)) && list_all (λ e. reads layout e.axis e.bits) a.matches

abbrev pub taken_verdict : VerdictAt → Net → Bounds → Layout → AggregationEntry → Verdict
taken_verdict at net region layout a =
    if layout_reads net layout a then overlap_verdict (region_overlap region (match_fields a.matches))
    (holder_verdict at net a.holder) else Some Never

abbrev pub tally_verdict : Net → Layout → ℕ → Verdict
tally_verdict net layout process =
    if process == net.report then (if refines layout net.report_layout then Some Once else Some Unassigned)
    else Some Never

abbrev pub handled_verdict : VerdictAt → Net → Bounds → Layout → Option Process → Verdict
handled_verdict at net region layout None = Some Never
handled_verdict at net region layout (Some process) =
    verdict_of_both (sent_verdict at net layout (at_places net.exporters process.exporters))
    (verdict_of_all (map (taken_verdict at net region layout) process.aggregations))

-- records that arrive at a collecting process
abbrev pub coming_verdict : VerdictAt → Net → Bounds → ℕ → Layout → Verdict
coming_verdict at net region process layout =
    verdict_of_both (tally_verdict net layout process)
    (handled_verdict at net region layout (slice_get net.processes process))

-- ---- the verdict on records of a layout at a collecting process

-- the verdict computed for at most this number of consecutive processes
abbrev pub verdict_within : Net → Bounds → ℕ → VerdictAt
verdict_within net region zero process layout = Some Never
verdict_within net region (suc n) process layout =
    coming_verdict (verdict_within net region n) net region process layout

abbrev pub verdict : Net → Bounds → VerdictAt
verdict net region = verdict_within net region (length net.processes)

-- ---- the verdict on a path

-- a selection process that meets the packets, and the verdict on the packets it selects
pub record SelectionVerdict : Type 0 where
  pub crossing : ℕ
  pub point : ℕ
  pub process : ℕ
  pub verdict : Verdict

abbrev pub selection_verdicts : VerdictAt → Net → Bounds → ℕ → ℕ → ℕ → Option Bounds → Option ℕ → List SelectionVerdict
selection_verdicts at net region crossing point process selected None = []
selection_verdicts at net region crossing point process selected (Some holder) =
    record {
      crossing = crossing;
      point = point;
      process = process;
      verdict =
          overlap_verdict (selection_overlap region selected) (holder_verdict at net holder);
    } ∷ []

abbrev pub point_verdicts : VerdictAt → Net → Bounds → ℕ → ℕ → ℕ → List Selection → List SelectionVerdict
point_verdicts at net region crossing point process [] = []
point_verdicts at net region crossing point process (s ∷ ss) =
    selection_verdicts at net region crossing point process s.region s.holder
    ++ point_verdicts at net region crossing point (process + 1) ss

abbrev pub crossing_verdicts : VerdictAt → Net → Bounds → ℕ → ℕ → List Point → Crossing → List SelectionVerdict
crossing_verdicts at net region number n [] crossing = []
crossing_verdicts at net region number n (point ∷ points) crossing =
    (if watches point crossing then point_verdicts at net region number n 1 point.selections else [])
    ++ crossing_verdicts at net region number (n + 1) points crossing

abbrev pub path_verdicts : VerdictAt → Net → Bounds → ℕ → List Crossing → List SelectionVerdict
path_verdicts at net region n [] = []
path_verdicts at net region n (c ∷ cs) =
    crossing_verdicts at net region n 1 (points_of (entry_numbered net.devices c.device)) c
    ++ path_verdicts at net region (n + 1) cs

-- the same for the selection processes along a path, in some order
abbrev pub verdicts_of : VerdictAt → Net → Bounds → List PathSelection → List SelectionVerdict
verdicts_of at net region [] = []
verdicts_of at net region (s ∷ ss) =
    selection_verdicts at net region s.crossing s.point s.process s.selection.region s.selection.holder
    ++ verdicts_of at net region ss

abbrev pub path_verdict : Net → Bounds → List Crossing → Verdict
path_verdict net region path = verdict_of_all
    (map (λ s. s.verdict) (path_verdicts (verdict net region) net region 1 path))

abbrev pub is_once : Verdict → Bool
is_once (Some Once) = true
is_once _ = false

-- the last of these with the verdict `Once`, or else the given one
abbrev pub last_counter : Option SelectionVerdict → List SelectionVerdict → Option SelectionVerdict
last_counter found [] = found
last_counter found (s ∷ ss) = last_counter (if is_once s.verdict then Some s else found) ss

-- the selection process that counts the packets, if their verdict is `Once`
abbrev pub counter : Net → Bounds → List Crossing → Option SelectionVerdict
counter net region path = last_counter None (path_verdicts (verdict net region) net region 1 path)
