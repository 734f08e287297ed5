-- How often a source is called, and how long a line may be.
use Rattle.std.specs.Prelude.{ℕ, ◌^◌}

-- The most calls of a source that doesn't end: once they are made, the source counts as failed.
abbrev pub call_limit : ℕ
call_limit = 2 ^ 32

-- The most bytes of a line, not counting its line feed.
abbrev pub line_length_limit : ℕ
line_length_limit = 4096
