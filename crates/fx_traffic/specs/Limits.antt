-- The limits on a traffic declaration.
use Rattle.std.specs.Prelude.{ℕ}

-- The most classes.
abbrev pub class_limit : ℕ
class_limit = 256

-- The most paths of a class.
abbrev pub path_limit : ℕ
path_limit = 16

-- The most crossings of a path.
abbrev pub crossing_limit : ℕ
crossing_limit = 32
