-- Orders of a network's collecting processes in which those of higher rank come first.
use Rattle.std.specs.Prelude.{ℕ, ◌<◌, List, [], ◌∷◌, length, Contains}
use Rattle.fx_tables.specs.Network.{Net}

-- after the processes that have come, each process comes after all those of higher rank
abbrev pub Descends : Net → (ℕ → ℕ) → List ℕ → List ℕ → Type 0
Descends net rank done [] = Unit {0}
Descends net rank done (process ∷ processes) =
    (process < length net.processes) × ((q : ℕ) → q < length net.processes → rank process < rank q → Contains done q)
    × Descends net rank (process ∷ done) processes
