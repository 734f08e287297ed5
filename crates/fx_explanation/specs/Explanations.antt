-- Explanations: text whose only control characters are line feeds.
use Rattle.std.specs.Prelude.{◌≡◌, ◌⊎◌, ℕ, Bool, true, ◌==◌, ◌||◌, List, Option}
use Rattle.std.specs.List.{list_all}
use Rattle.fx_base.specs.Device.{Writes}
use Rattle.fx_base.specs.Fault.{fault_at, IsMemory, shown}
use Rattle.fx_base.specs.declared.fault.Fault.{Fault}
use Rattle.fx_base.specs.declared.fault.Place.TheVariants as places
use Rattle.fx_base.specs.Refusals.{failed_read, long_line}

-- an octet that an explanation may have: a line feed, or no control character
abbrev pub is_plain : ℕ → Bool
is_plain b = b == 10 || shown b == b

abbrev pub IsPlainText : List ℕ → Type 0
IsPlainText text = list_all is_plain text ≡ true

-- such a text follows what was written before
abbrev pub WritesExplanation : Option (List ℕ) → Option (List ℕ) → Type 0
WritesExplanation old new = (text : List ℕ) × IsPlainText text × Writes old new text

-- a text's lines can't be read again: a read fails, or a line is too long
abbrev pub IsLineFault : Fault → Type 0
IsLineFault e = (e ≡ fault_at failed_read places.None) ⊎ ((line : ℕ) × (e ≡ fault_at long_line (places.Line line)))

-- why the lines of a text are not explained
abbrev pub IsUnexplained : Fault → Type 0
IsUnexplained e = IsMemory e ⊎ IsLineFault e
