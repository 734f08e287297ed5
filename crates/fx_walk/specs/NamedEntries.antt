-- A list's entries with their names.
use Rattle.std.specs.Prelude.{ℕ, List, map}
use Rattle.fx_walk.specs.declared.entries.Entries.{Entries}

abbrev pub named_entries : {X : Type 0} → (X → List ℕ) → List X → Entries X
named_entries name xs = record { items = xs; names = map name xs }
