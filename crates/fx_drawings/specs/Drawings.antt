-- What drawings are: text whose only control characters are line feeds.
use Rattle.std.specs.Prelude.{◌≡◌, ℕ, Bool, true, ◌==◌, ◌||◌, List, Option}
use Rattle.std.specs.List.{list_all}
use Rattle.fx_base.specs.Device.{Writes}
use Rattle.fx_base.specs.Fault.{shown}

-- an octet that a drawing may have: a line feed, or no control character
abbrev pub is_plain : ℕ → Bool
is_plain b = b == 10 || shown b == b

abbrev pub IsPlainDrawing : List ℕ → Type 0
IsPlainDrawing text = list_all is_plain text ≡ true

-- such a text follows what was written before
abbrev pub WritesDrawing : Option (List ℕ) → Option (List ℕ) → Type 0
WritesDrawing old new = (text : List ℕ) × IsPlainDrawing text × Writes old new text
