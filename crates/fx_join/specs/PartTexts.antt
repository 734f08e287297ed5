-- The texts of parts, one after another. A part is a line `check`, then three texts, each followed by a line `%%`.
use Rattle.std.specs.List.{AllByRecursion}
use Rattle.fx_base.specs.Lines.{text_lines}
use Rattle.std.specs.Prelude.{◌≡◌, ℕ, Bool, List, [], ◌∷◌, ◌++◌, codes, bytes_eq, Option, Some, None, option_map, option_and_then, if◌then◌else◌}

-- a line, and whether a line feed ended it
abbrev pub TextLine : Type 0
TextLine = List ℕ × Bool

abbrev pub line_octets : TextLine → List ℕ
line_octets line = if line.1 then line.0 ++ 10 ∷ [] else line.0

-- the line has these octets and a line feed
abbrev pub is_line : List ℕ → TextLine → Bool
is_line octets line = bytes_eq (line_octets line) (octets ++ 10 ∷ [])

-- the line `%%`, which ends a text
abbrev pub is_mark : TextLine → Bool
is_mark = is_line (codes "%%")

-- the line with which a part begins
abbrev pub is_command : TextLine → Bool
is_command = is_line (codes "check")

-- these octets precede a text that was found
abbrev pub put_before : List ℕ → List ℕ × List TextLine → List ℕ × List TextLine
put_before octets found = (octets ++ found.0, found.1)

-- the octets of the lines before the first line `%%`, and the lines after it
abbrev pub first_text : List TextLine → Option (List ℕ × List TextLine)
first_text [] = None
first_text (line ∷ lines) =
    if is_mark line then Some ([], lines)
    else option_map (put_before (line_octets line)) (first_text lines)

-- a part: the texts of its network document, of its traffic declaration and of its certificate
pub record PartText : Type 0 where
  pub network : List ℕ
  pub traffic : List ℕ
  pub certificate : List ℕ

-- the first three texts of these lines, and the lines after the third
abbrev pub with_certificate : List ℕ → List ℕ → List TextLine → Option (PartText × List TextLine)
with_certificate network traffic lines =
    option_map (λ found. (record { network = network; traffic = traffic; certificate = found.0 }, found.1))
    (first_text lines)

abbrev pub with_traffic : List ℕ → List TextLine → Option (PartText × List TextLine)
with_traffic network lines = option_and_then (λ found. with_certificate network found.0 found.1) (first_text lines)

abbrev pub three_texts : List TextLine → Option (PartText × List TextLine)
three_texts lines = option_and_then (λ found. with_traffic found.0 found.1) (first_text lines)

-- the part with which these lines begin, and the lines after it
abbrev pub first_part : List TextLine → Option (PartText × List TextLine)
first_part [] = None
first_part (line ∷ lines) = if is_command line then three_texts lines else None

-- the lines begin with these parts, which other lines follow
abbrev pub BeginsWith : List TextLine → List PartText → List TextLine → Type 0
BeginsWith lines [] behind = lines ≡ behind
BeginsWith lines (part ∷ parts) behind =
    (rest : List TextLine) × (first_part lines ≡ Some (part, rest)) × BeginsWith rest parts behind

-- the octets begin with these parts, each of which has the property, and other lines follow
pub record IsReadTo (P : PartText → Type 0) (octets : List ℕ) (parts : List PartText) (behind : List TextLine) : Type 0
  where
    pub begins : BeginsWith (text_lines octets) parts behind
    pub all : AllByRecursion P parts

-- after these parts, each of which has the property, this part follows
pub record IsFollowedBy (P : PartText → Type 0) (parts : List PartText) (part : PartText) (octets : List ℕ) : Type 0
  where
    pub lines : List TextLine
    pub read_to : IsReadTo P octets parts lines
    pub behind : List TextLine
    pub next : first_part lines ≡ Some (part, behind)

-- after these parts there are lines with which no part begins
pub record IsFollowedByNone (P : PartText → Type 0) (parts : List PartText) (octets : List ℕ) : Type 0 where
  pub lines : List TextLine
  pub read_to : IsReadTo P octets parts lines
  pub some : lines ≡ [] → ⊥
  pub none : first_part lines ≡ None
