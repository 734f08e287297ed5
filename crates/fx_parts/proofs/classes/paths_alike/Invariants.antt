use Rattle.std.proofs.Common.{◌≡◌, ℕ, ◌<◌, List, Some, slice_get}
use Rattle.fx_tables.specs.declared.traffic.Crossing.{Crossing}
use Rattle.fx_parts.specs.Parts.{MetersTheSame}
use Rattle.fx_parts.proofs.classes.paths_alike.Given as goal

abbrev pub invariant-loop-index : goal.invariant-loop-index
invariant-loop-index l =
    (k : ℕ) → k < l.index → (path : List Crossing) → slice_get l.outer k ≡ Some path → (other : List Crossing)
    × (slice_get l.inner k ≡ Some other) × MetersTheSame l.part l.whole l.places other path
