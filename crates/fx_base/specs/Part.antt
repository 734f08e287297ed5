-- The next line of a text of which some octets are held.
use Rattle.std.specs.Prelude.{◌≡◌, ℕ, ◌+◌, ◌≤◌, ◌<◌, ◌⊎◌, nat_lt, if◌then◌else◌, List, [], length, Option, IfSome}
use Rattle.fx_base.specs.Device.{MayHaveLeft}
use Rattle.fx_base.specs.Lines.{line_len}
use Rattle.fx_base.specs.Window.{Held, octets_of, HasFailed}
use Rattle.fx_base.specs.declared.part.LinePart.{LinePart}
use Rattle.fx_base.specs.declared.part.LineStop.{LineStop}
use Rattle.fx_base.specs.declared.part.LineStop.TheVariants.{Device, TooLong}
use Rattle.fx_base.specs.Limits.{line_length_limit}

-- a line feed ends the first line of the octets held
abbrev pub HasFeed : LinePart → List ℕ → Type 0
HasFeed part held =
    (part.line ≡ line_len held) × (part.line < length held) × (part.taken ≡ part.line + 1)

-- the octets held are the whole last line, or there are none at the end of the text
abbrev pub IsLast : LinePart → List ℕ → Option (List ℕ) → Type 0
IsLast part held left =
    (line_len held ≡ length held) × (part.line ≡ length held) × (part.taken ≡ length held)
    × IfSome left (λ text. text ≡ [])

-- the line at the front of the octets held
pub record IsPart (part : LinePart) (held : List ℕ) (left : Option (List ℕ)) : Type 0 where
  pub line : part.line ≤ part.taken
  pub taken : part.taken ≤ length held
  pub short : part.line ≤ line_length_limit
  pub first : HasFeed part held ⊎ IsLast part held left

-- the number of calls that return no octet: one if the text ends without a line feed or had already ended
abbrev pub calls_of_part : LinePart → ℕ
calls_of_part part = if nat_lt part.line part.taken then 0 else 1

-- why no line is found
abbrev pub IsWhyNoLine : LineStop → Held → Held → Type 0
IsWhyNoLine Device old new = HasFailed old new
IsWhyNoLine TooLong old new = MayHaveLeft (octets_of old) (λ text. line_length_limit < line_len text)
