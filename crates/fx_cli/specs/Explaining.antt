-- What an explanation of refusals prints.
use Rattle.std.specs.Prelude.{◌≡◌, ◌⊎◌, ℕ, Bool, true, false, nat_lt, List, [], ◌∷◌, ◌++◌, codes, Option, None, Some, if◌then◌else◌}
use Rattle.std.specs.Str.{bytes_eq}
use Rattle.fx_base.specs.Refusals.{is_refusal_number}
use Rattle.fx_elements.specs.Spelling.{largest, number_of}
use Rattle.fx_checker.specs.declared.answer.Answer.{Answer}
use Rattle.fx_checker.specs.declared.answer.Answer.TheVariants.{Yes, No}
use Rattle.fx_words.specs.Table.{row_of, table}
use Rattle.fx_words.specs.Texts.{explanation_of, list_text}
use Rattle.clap.specs.Words.{Text}

-- the line for a number that no refusal has
abbrev pub unknown_number_line : List ℕ
unknown_number_line = codes "unknown number" ++ 10 ∷ []

-- a number below 65,536
abbrev pub small : Option ℕ → Option ℕ
small None = None
small (Some number) = if nat_lt number 65536 then Some number else None

-- the explanation of a number, if it is a refusal number
abbrev pub IsExplainedAs : Bool → ℕ → Answer → List ℕ → Type 0
IsExplainedAs true number answer text = (answer ≡ Yes) × (text ≡ explanation_of (row_of number table))
IsExplainedAs false number answer text = (answer ≡ No) × (text ≡ unknown_number_line)

abbrev pub IsExplained : Option ℕ → Answer → List ℕ → Type 0
IsExplained None answer text = (answer ≡ No) × (text ≡ unknown_number_line)
IsExplained (Some number) answer text = IsExplainedAs (is_refusal_number number) number answer text

-- for the argument `all` the list of all numbers, for a number in decimal digits its explanation
abbrev pub IsExplainText : Text → Answer → List ℕ → Type 0
IsExplainText word answer text =
    ((bytes_eq word (codes "all") ≡ true) × (answer ≡ Yes) × (text ≡ list_text table))
    ⊎ ((bytes_eq word (codes "all") ≡ false) × IsExplained (small (number_of largest word)) answer text)
