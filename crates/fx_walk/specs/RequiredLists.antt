-- Lists that may be empty but are required.
use Rattle.std.specs.Prelude.{ℕ, List, []}
use Rattle.serde_json.specs.Data.{Data}
use Rattle.fx_walk.specs.Walk.{FoundFault, Row, required_row}
use Rattle.fx_walk.specs.Lists.{list_faults, items_faults, entries_faults}

abbrev pub required_items : ℕ → List ℕ → (List ℕ → Data → List FoundFault) → Row
required_items most name faults = required_row name (list_faults 0 most (λ up ds. items_faults faults up 0 ds))

-- the same for entries with distinct names
abbrev pub required_entries : ℕ → List ℕ → (List (List ℕ) → List ℕ → Data → List FoundFault) → (Data → List ℕ) → Row
required_entries most name faults name_in =
    required_row name (list_faults 0 most (λ up ds. entries_faults faults name_in [] up 0 ds))
