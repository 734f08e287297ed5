-- The limits on the size of a network.
use Rattle.std.specs.Prelude.{ℕ}

-- The largest number of distinct layouts.
abbrev pub layout_limit : ℕ
layout_limit = 64
