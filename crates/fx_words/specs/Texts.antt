-- Refusals as they are written.
use Rattle.std.specs.Prelude.{ℕ, List, [], ◌∷◌, ◌++◌, codes, decimal, Option, Some, None}
use Rattle.std.specs.List.{flat_map}
use Rattle.fx_words.specs.Words.{Words}

-- a text on its own line after a label, or nothing if there is no text
abbrev pub line_behind : List ℕ → List ℕ → List ℕ
line_behind word [] = []
line_behind word (c ∷ text) = word ++ ((c ∷ text) ++ codes "\n")

-- what is wrong, the usual causes, what to do, and where to read more
abbrev pub reason_text : Words → List ℕ
reason_text row =
    line_behind (codes "wrong: ") row.wrong
    ++ (line_behind (codes "usually: ") row.cause
    ++ (line_behind (codes "what to do: ") row.cure ++ line_behind (codes "see: ") row.section))

-- nothing where there is no row
abbrev pub reason_of : Option Words → List ℕ
reason_of None = []
reason_of (Some row) = reason_text row

-- a line with the number, and the reason
abbrev pub explanation_text : Words → List ℕ
explanation_text row = decimal row.number ++ (codes "\n" ++ reason_text row)

-- nothing where there is no row
abbrev pub explanation_of : Option Words → List ℕ
explanation_of None = []
explanation_of (Some row) = explanation_text row

-- a row as a line
abbrev pub list_line : Words → List ℕ
list_line row = decimal row.number ++ (codes "  " ++ (row.wrong ++ codes "\n"))

-- rows, one per line
abbrev pub list_text : List Words → List ℕ
list_text rows = flat_map list_line rows
