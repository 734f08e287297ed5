-- Marks of the table entries from which the verdict on a path is computed: for each collecting process a number,
-- whose bits are layouts.
use Rattle.std.specs.Prelude.{◌≡◌, ◌<◌, ◌==◌, ◌^◌, ℕ, true, List, [], ◌∷◌, ◌++◌, map, length, Contains, Option, Some, None, slice_get, slice_index, slice_set, bit_or, if◌then◌else◌}
use Rattle.std.specs.Int.{bit_at}
use Rattle.fx_boxes.specs.Boxes.{Bounds}
use Rattle.fx_layout.specs.Keys.{Layout}
use Rattle.fx_tables.specs.declared.observation.Selection.{Selection}
use Rattle.fx_tables.specs.declared.traffic.Crossing.{Crossing}
use Rattle.fx_tables.specs.Network.{Net, Point, Exporter, AggregationEntry, Process, before, points_of, at_places, exporters_of}
use Rattle.fx_base.specs.Entries.{entry_numbered}
use Rattle.fx_tables.specs.Occurrences.{watches}
use Rattle.fx_leaf.specs.Splits.{Meets}
use Rattle.fx_leaf.specs.Tables.{Numbering, Table, number_of_layout, entry, entry_from}
use Rattle.fx_leaf.specs.Verdicts.{verdict}

-- the layout of this number is marked at the collecting process
abbrev pub IsMarked : List ℕ → ℕ → ℕ → Type 0
IsMarked marks process number = bit_at (slice_index marks process) number ≡ 1

-- existing marks are kept
abbrev pub KeepsMarks : List ℕ → List ℕ → Type 0
KeepsMarks old new = (process number : ℕ) → IsMarked old process number → IsMarked new process number

-- one of these exporting processes sends to the collecting process
pub record Feeds (net : Net) (exporters : List Exporter) (process : ℕ) : Type 0 where
  pub exporter : Exporter
  pub among : Contains exporters exporter
  pub link : ℕ
  pub linked : Contains exporter.destinations (Some link)
  pub leads : slice_get net.links link ≡ Some process
  pub there : process < length net.processes

-- ---- properties of collecting processes and layouts by number, that hold wherever records arrive

-- the property holds wherever these exporting processes send records of the layout of this number
abbrev pub HoldsWhereSent : Net → (ℕ → ℕ → Type 0) → ℕ → List Exporter → Type 0
HoldsWhereSent net holds number exporters = (process : ℕ) → Feeds net exporters process → holds process number

-- the property holds wherever the records of a holder are sent
abbrev pub HoldsBehindHolder : Net → Numbering → (ℕ → ℕ → Type 0) → ℕ → Type 0
HoldsBehindHolder net n holds holder = HoldsWhereSent net holds (number_of_layout n holder)
    (exporters_of net (slice_get net.holders holder))

-- the property holds wherever a collecting process sends records of the layout of this number, or its aggregations send
-- theirs
abbrev pub HoldsBehindProcess : Net → Numbering → (ℕ → ℕ → Type 0) → ℕ → Process → Type 0
HoldsBehindProcess net n holds number process =
    HoldsWhereSent net holds number (at_places net.exporters process.exporters)
    × ((a : AggregationEntry) → Contains process.aggregations a → HoldsBehindHolder net n holds a.holder)

abbrev pub HoldsBehind : Net → Numbering → (ℕ → ℕ → Type 0) → ℕ → Option Process → Type 0
HoldsBehind net n holds number None = Unit {0}
HoldsBehind net n holds number (Some process) = HoldsBehindProcess net n holds number process

-- the property holds wherever records of packets that take a path are first sent
abbrev pub HoldsBehindSelection : Net → Numbering → (ℕ → ℕ → Type 0) → Selection → Type 0
HoldsBehindSelection net n holds s = (holder : ℕ) → s.holder ≡ Some holder → HoldsBehindHolder net n holds holder

abbrev pub HoldsBehindSelections : Net → Numbering → (ℕ → ℕ → Type 0) → List Selection → Type 0
HoldsBehindSelections net n holds selections = (s : Selection) → Contains selections s
    → HoldsBehindSelection net n holds s

abbrev pub HoldsBehindPoints : Net → Numbering → (ℕ → ℕ → Type 0) → List Point → Crossing → Type 0
HoldsBehindPoints net n holds points crossing =
    (p : Point) → Contains points p → watches p crossing ≡ true → HoldsBehindSelections net n holds p.selections

abbrev pub HoldsAlongPath : Net → Numbering → (ℕ → ℕ → Type 0) → List Crossing → Type 0
HoldsAlongPath net n holds path = (s : Selection) → Meets net path s → HoldsBehindSelection net n holds s

-- ---- marked entries, and the verdicts filled in for them

-- if a layout is marked, so is every entry to which its records lead
abbrev pub IsClosed : Net → Numbering → List ℕ → Type 0
IsClosed net n marks =
    (process number : ℕ) (p : Process) → IsMarked marks process number → slice_get net.processes process ≡ Some p
    → HoldsBehindProcess net n (IsMarked marks) number p

-- the entry is the verdict
abbrev pub IsVerdict : Net → Numbering → Bounds → Table → ℕ → ℕ → Type 0
IsVerdict net n region table process number =
    (layout : Layout) → slice_get n.layouts number ≡ Some layout → entry table process number
    ≡ verdict net region process layout

-- each marked entry has the value computed from the entries on which it depends
abbrev pub Agrees : Net → Numbering → Bounds → List ℕ → Table → Type 0
Agrees net n region marks table =
    (process number : ℕ) (layout : Layout) → IsMarked marks process number → slice_get n.layouts number ≡ Some layout
    → entry table process number ≡ entry_from table net n region process number layout

-- each marked entry is the verdict
pub record IsFilled (net : Net) (n : Numbering) (region : Bounds) (marks : List ℕ) (table : Table) : Type 0 where
  pub size : length table ≡ length net.processes
  pub closed : IsClosed net n marks
  pub verdicts : (process number : ℕ) → IsMarked marks process number → IsVerdict net n region table process number

-- ---- adding marks

-- the marks with these layouts added at a collecting process
abbrev pub marks_at : ℕ → List ℕ → Option ℕ → List ℕ
marks_at layouts marks None = marks
marks_at layouts marks (Some process) = slice_set marks process (bit_or (slice_index marks process) layouts)

-- the same at the collecting process to which a destination leads
abbrev pub marks_behind : Net → ℕ → List ℕ → Option ℕ → List ℕ
marks_behind net layouts marks None = marks
marks_behind net layouts marks (Some link) = marks_at layouts marks (slice_get net.links link)

-- the same at all collecting processes to which these destinations lead
abbrev pub marks_to : Net → ℕ → List ℕ → List (Option ℕ) → List ℕ
marks_to net layouts marks [] = marks
marks_to net layouts marks (d ∷ ds) = marks_to net layouts (marks_behind net layouts marks d) ds

-- the same at all collecting processes to which these exporting processes send
abbrev pub marks_by : Net → ℕ → List ℕ → List Exporter → List ℕ
marks_by net layouts marks [] = marks
marks_by net layouts marks (e ∷ es) = marks_by net layouts (marks_to net layouts marks e.destinations) es

-- the marks with the layout of a holder added wherever its records are sent
abbrev pub marks_by_holder : Net → Numbering → List ℕ → ℕ → List ℕ
marks_by_holder net n marks holder =
    marks_by net (2 ^ number_of_layout n holder) marks (exporters_of net (slice_get net.holders holder))

abbrev pub marks_by_holders : Net → Numbering → List ℕ → List ℕ → List ℕ
marks_by_holders net n marks [] = marks
marks_by_holders net n marks (holder ∷ holders) = marks_by_holders net n (marks_by_holder net n marks holder) holders

-- the marks with the layouts marked at a collecting process added wherever it sends records, and those of its
-- aggregations
abbrev pub marks_on : Net → Numbering → ℕ → List ℕ → Option Process → List ℕ
marks_on net n layouts marks None = marks
marks_on net n layouts marks (Some process) =
    marks_by_holders net n (marks_by net layouts marks (at_places net.exporters process.exporters))
    (map (λ a. a.holder) process.aggregations)

abbrev pub marks_from : Net → Numbering → List ℕ → ℕ → List ℕ
marks_from net n marks process =
    if slice_index marks process == 0 then marks else marks_on net n (slice_index marks process) marks
    (slice_get net.processes process)

-- the marks spread from these collecting processes, the last first
abbrev pub spread : Net → Numbering → List ℕ → List ℕ → List ℕ
spread net n [] marks = marks
spread net n (process ∷ processes) marks = marks_from net n (spread net n processes marks) process

-- ---- the holders of records of packets that take a path

abbrev pub holders_by : List Selection → List ℕ
holders_by [] = []
holders_by (s ∷ ss) = before s.holder (holders_by ss)

abbrev pub holders_at : List Point → Crossing → List ℕ
holders_at [] crossing = []
holders_at (point ∷ points) crossing = (if watches point crossing then holders_by point.selections else [])
    ++ holders_at points crossing

abbrev pub holders_along : Net → List Crossing → List ℕ
holders_along net [] = []
holders_along net (c ∷ cs) = holders_at (points_of (entry_numbered net.devices c.device)) c ++ holders_along net cs
