-- Leaves of a certificate: for a region's packets on a path, the one occurrence that counts each of them, or none.
use Rattle.std.specs.Prelude.{◌≡◌, ◌≢◌, ◌⊎◌, ◌&&◌, ◌==◌, Contains, ℕ, ◌+◌, Bool, true, false, List, [], ◌∷◌, ◌++◌, map, All, Some, None, slice_get}
use Rattle.std.specs.List.{list_all}
use Rattle.fx_elements.specs.Axes.{Fields, field, axis_width}
use Rattle.fx_boxes.specs.Boxes.{Bounds, holds}
use Rattle.fx_layout.specs.Keys.{Key, reads, refines, leading_bits}
use Rattle.fx_tables.specs.declared.aggregation.MatchEntry.{MatchEntry}
use Rattle.fx_tables.specs.declared.traffic.Crossing.{Crossing}
use Rattle.fx_tables.specs.declared.observation.Occurrence.{Occurrence}
use Rattle.fx_tables.specs.declared.observation.Selection.{Selection}
use Rattle.fx_tables.specs.Network.{Net, Point, AggregationEntry, Exporter, points_of, aggregations_of, exporters_of, layout_of}
use Rattle.fx_base.specs.Entries.{entry_numbered}
use Rattle.fx_tables.specs.Occurrences.{occurrences, watches, selects}
use Rattle.fx_machine.specs.Acts.{Act, Tally, Send, Hold}
use Rattle.fx_machine.specs.Steps.{meet, coming_to}
use Rattle.fx_leaf.specs.declared.verdict.Fate.{Fate}
use Rattle.fx_leaf.specs.declared.verdict.Fate.TheVariants.{Once, Never}
use Rattle.fx_leaf.specs.Fates.{act_fate, fate, acts_along}

-- ---- the region isn't cut

-- a test passes for all packets of the region, or for none of them
abbrev pub Uncut : Bounds → (Fields → Bool) → Type 0
Uncut region test = ((fields : Fields) → holds region fields ≡ true → test fields ≡ true)
    ⊎ ((fields : Fields) → holds region fields ≡ true → test fields ≡ false)

-- an exporting process sends a key to this collecting process through one of its destinations
abbrev pub SentTo : Net → Exporter → Key → ℕ → Key → Type 0
SentTo net exporter key process sent =
    (link : ℕ) × Contains exporter.destinations (Some link) × (slice_get net.links link ≡ Some process) × (sent ≡ key)

abbrev pub LeadsTo : Net → Act → ℕ → Key → Type 0
LeadsTo net (Tally key) process sent = ⊥
LeadsTo net (Send exporter key) process sent = SentTo net exporter key process sent
LeadsTo net (Hold holder key) process sent =
    (exporter : Exporter) × Contains (exporters_of net (slice_get net.holders holder)) exporter
    × SentTo net exporter key process sent

-- for some choices a record of the packet reaches the collecting process with this key
pub data Reached (net : Net) (path : List Crossing) (fields : Fields) : ℕ → Key → Type 0 where
  first : (a : Act) (process : ℕ) (key : Key) → Contains (acts_along net fields path) a → LeadsTo net a process key
      → Reached net path fields process key
  next : (from : ℕ) (earlier : Key) (a : Act) (process : ℕ) (key : Key) → Reached net path fields from earlier
      → Contains (coming_to net earlier from) a → LeadsTo net a process key → Reached net path fields process key

-- an aggregation's key and match can be read from a key
abbrev pub can_read : Net → Key → AggregationEntry → Bool
can_read net key aggregation =
    refines key.layout (layout_of (slice_get net.holders aggregation.holder)) && list_all
    (λ e. reads key.layout e.axis e.bits) aggregation.matches

-- the packet satisfies the whole match
abbrev pub matches_packet : List MatchEntry → Fields → Bool
matches_packet entries fields = list_all (λ e. leading_bits (axis_width e.axis) e.bits (field fields e.axis) == e.value)
    entries

-- no selection process with a cache that the path meets cuts the region
abbrev pub SelectionsUncut : Net → List Crossing → Bounds → Type 0
SelectionsUncut net path region =
    (c : Crossing) (p : Point) (s : Selection) → Contains path c
    → Contains (points_of (entry_numbered net.devices c.device)) p → watches p c ≡ true → Contains p.selections s
    → s.holder ≢ None → Uncut region (selects s.region)

-- no match cuts the region, of an aggregation that a record of the packets can reach and whose key and match can be
-- read from it
abbrev pub MatchesUncut : Net → List Crossing → Bounds → Type 0
MatchesUncut net path region =
    (fields : Fields) (process : ℕ) (key : Key) (a : AggregationEntry) → holds region fields ≡ true
    → Reached net path fields process key → Contains (aggregations_of (slice_get net.processes process)) a
    → can_read net key a ≡ true → Uncut region (matches_packet a.matches)

-- ---- one occurrence is counted

-- an occurrence at the crossing of this number
pub record Met : Type 0 where
  pub crossing : ℕ
  pub occurrence : Occurrence

-- the occurrences of a packet at these crossings, numbered from this one
abbrev pub met_along : Net → Fields → ℕ → List Crossing → List Met
met_along net fields n [] = []
met_along net fields n (c ∷ cs) =
    map (λ o. record { crossing = n; occurrence = o }) (occurrences net c fields) ++ met_along net fields (n + 1) cs

abbrev pub met_fate : Net → Fields → Met → Fate
met_fate net fields m = act_fate (fate net) net (meet net fields m.occurrence)

-- the named occurrence has the fate `Once`, and every other occurrence `Never`
pub record OneCounted (net : Net) (path : List Crossing) (crossing point process : ℕ) (fields : Fields) : Type 0 where
  pub before : List Met
  pub named : Met
  pub after : List Met
  pub all : met_along net fields 1 path ≡ before ++ named ∷ after
  pub crossing_is : named.crossing ≡ crossing
  pub point_is : named.occurrence.point ≡ point
  pub process_is : named.occurrence.process ≡ process
  pub once : met_fate net fields named ≡ Once
  pub never_before : All (λ m. met_fate net fields m ≡ Never) before
  pub never_after : All (λ m. met_fate net fields m ≡ Never) after

-- no occurrence is counted
abbrev pub NoneCounted : Net → List Crossing → Fields → Type 0
NoneCounted net path fields = All (λ m. met_fate net fields m ≡ Never) (met_along net fields 1 path)

-- ---- leaves

-- for packets that are to be counted
pub record SoundLeaf (net : Net) (path : List Crossing) (region : Bounds) (crossing point process : ℕ) : Type 0 where
  pub selections : SelectionsUncut net path region
  pub matches : MatchesUncut net path region
  pub counted : (fields : Fields) → holds region fields ≡ true → OneCounted net path crossing point process fields

-- for packets that are exempt
pub record SoundNever (net : Net) (path : List Crossing) (region : Bounds) : Type 0 where
  pub selections : SelectionsUncut net path region
  pub matches : MatchesUncut net path region
  pub uncounted : (fields : Fields) → holds region fields ≡ true → NoneCounted net path fields
