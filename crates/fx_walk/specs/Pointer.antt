-- JSON Pointers (RFC 6901).
use Rattle.std.specs.Prelude.{ℕ, ◌==◌, if◌then◌else◌, List, [], ◌∷◌, ◌++◌}
use Rattle.std.specs.List.{flat_map}
use Rattle.std.specs.Fmt.{decimal}
use Rattle.std.specs.Str.{chars}
use Rattle.std.specs.Char.{encode_utf8}
use Rattle.fx_walk.specs.declared.path.DocumentPath.{DocumentPath, fold-DocumentPath}
use Rattle.fx_walk.specs.declared.path.DocumentPath.TheOpen.{DocumentPath-F}

-- `~` is written `~0`, and `/` is written `~1`
abbrev pub escaped_char : ℕ → List ℕ
escaped_char c = if c == 126 then 126 ∷ 48 ∷ [] else (if c == 47 then 126 ∷ 49 ∷ [] else encode_utf8 c)

abbrev pub escaped_name : List ℕ → List ℕ
escaped_name name = flat_map escaped_char (chars name)

-- the pointer to a member of a value, and to an item of a list
abbrev pub below : List ℕ → List ℕ → List ℕ
below up name = up ++ 47 ∷ escaped_name name

abbrev pub nth : List ℕ → ℕ → List ℕ
nth up i = up ++ 47 ∷ decimal i

abbrev pub pointer_step : DocumentPath-F (List ℕ) → List ℕ
pointer_step DocumentPath-F.Root = []
pointer_step (DocumentPath-F.Member up name) = below up.now name.now
pointer_step (DocumentPath-F.Item up i) = nth up.now i

abbrev pub pointer : DocumentPath → List ℕ
pointer = fold-DocumentPath (List ℕ) pointer_step
