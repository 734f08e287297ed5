-- Tallying a record.
use Rattle.std.specs.Prelude.{ℕ, ◌+◌, Bool, List, if◌then◌else◌}
use Rattle.fx_base.specs.declared.counts.Counts.{Counts}
use Rattle.fx_layout.specs.Keys.{Layout, Key, refines, project}
use Rattle.fx_tables.specs.declared.record.Record.{Record}
use Rattle.fx_machine.specs.States.{add_at}

-- the totals after a record is tallied under a layout
abbrev pub totals_with : Layout → Key → Counts → List Record → List Record
totals_with layout key counts totals = if refines key.layout layout then add_at totals (project key layout) counts
    else totals

-- the number of unassigned records after a record is tallied
abbrev pub unassigned_with : Layout → Key → ℕ → ℕ
unassigned_with layout key unassigned = if refines key.layout layout then unassigned else unassigned + 1

-- the totals with the record if it is tallied, otherwise unchanged
abbrev pub totals_when : Bool → Layout → Key → Counts → List Record → List Record
totals_when tallies layout key counts totals = if tallies then totals_with layout key counts totals else totals

abbrev pub unassigned_when : Bool → Layout → Key → ℕ → ℕ
unassigned_when tallies layout key unassigned = if tallies then unassigned_with layout key unassigned else unassigned
