-- The limit on the length of a refutation.
use Rattle.std.specs.Prelude.{ℕ}

-- The largest number of steps of a refutation.
abbrev pub step_limit : ℕ
step_limit = 1000000
