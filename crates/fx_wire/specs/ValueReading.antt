-- The answers of the readers of values.
use Rattle.std.specs.Prelude.{ℕ, List, Option, Some, None}
use Rattle.std.specs.Borrow.{Bor}

abbrev pub both : Option (Bor (List ℕ) × Bor (List ℕ)) → Option (List ℕ × List ℕ)
both None = None
both (Some p) = Some (p.0.now, p.1.now)

abbrev pub behind : Option (Bor (List ℕ)) → Option (List ℕ)
behind None = None
behind (Some r) = Some r.now
