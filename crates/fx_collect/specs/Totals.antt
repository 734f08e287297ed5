-- What a collector has counted.
use Rattle.std.specs.Prelude.{◌≡◌, ℕ, ◌+◌, ◌%◌, ◌^◌, false, List, [], ◌∷◌, map, length, All, Option, Some, None, if◌then◌else◌}
use Rattle.std.specs.List.{AllByRecursion}
use Rattle.fx_base.specs.declared.counts.Counts.{Counts}
use Rattle.fx_base.specs.Counts.{add_counts}
use Rattle.fx_layout.specs.Keys.{Layout, Key, HasBits, refines, project, same_key}
use Rattle.fx_tables.specs.declared.record.Record.{Record}
use Rattle.fx_machine.specs.States.{State, add_at}

pub record Totals : Type 0 where
  pub layout : Layout  -- of all keys
  pub entries : List Record  -- what was counted under each key
  pub unassigned : ℕ  -- how many records couldn't be tallied, modulo 2 to the 64

-- nothing was counted
abbrev pub nothing : Layout → Totals
nothing layout = record { layout = layout; entries = []; unassigned = 0 }

-- this number of further records couldn't be tallied
abbrev pub with_unassigned : Totals → ℕ → Totals
with_unassigned t records = record t { unassigned = (t.unassigned + records) % 2 ^ 64 }

-- the counts are added at the record's key under the layout; a record whose layout doesn't refine it is unassigned
abbrev pub with_record : Totals → Record → Totals
with_record t r =
    if refines r.key.layout t.layout
    then record t { entries = add_at t.entries (project r.key t.layout) r.counts }
    else with_unassigned t 1

-- the records are added in order
abbrev pub with_records : Totals → List Record → Totals
with_records t [] = t
with_records t (r ∷ rs) = with_records (with_record t r) rs

-- what a network in this state has counted, added record by record
abbrev pub totals_of : Layout → State → Totals
totals_of layout s = record (with_records (nothing layout) s.totals) { unassigned = s.unassigned }

-- the same, taken from the state unchanged
abbrev pub totals_in : Layout → State → Totals
totals_in layout s = record { layout = layout; entries = s.totals; unassigned = s.unassigned }

-- ---- the records of a table of totals

-- a key under the layout
abbrev pub IsUnder : Layout → Key → Type 0
IsUnder layout key = (key.layout ≡ layout) × (length key.values ≡ length layout)

-- no two records have the same key
abbrev pub Differ : List Record → Type 0
Differ [] = Unit {0}
Differ (r ∷ rs) = AllByRecursion (λ other. same_key r.key other.key ≡ false) rs × Differ rs

-- each record has a key of its own, under the layout
pub record IsTable (layout : Layout) (rs : List Record) : Type 0 where
  pub under : AllByRecursion (λ r. IsUnder layout r.key) rs
  pub differ : Differ rs

-- ---- what is kept: values and counts

-- what was counted before, with these counts added
abbrev pub counts_with : Option Counts → Counts → Counts
counts_with None more = more
counts_with (Some counts) more = add_counts counts more

-- the record of one layout that has these values and counts
abbrev pub record_of : Layout → List ℕ × Counts → Record
record_of layout p = record { key = record { layout = layout; values = p.0 }; counts = p.1 }

abbrev pub records_of : Layout → List (List ℕ × Counts) → List Record
records_of layout ps = map (record_of layout) ps

-- all values fit in the bits of their parts
abbrev pub AllHaveBits : Layout → List (List ℕ × Counts) → Type 0
AllHaveBits layout ps = All (λ p. HasBits layout p.0) ps
