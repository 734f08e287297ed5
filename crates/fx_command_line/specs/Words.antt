-- Which arguments give which call.
use Rattle.std.specs.Prelude.{◌≡◌, ◌⊎◌, ◌≤◌, ◌==◌, ◌&&◌, ℕ, Bool, false, List, [], ◌∷◌, ◌++◌, Option, Some, None, option_map, slice_get, is_some, codes, if◌then◌else◌, string_bytes}
use Rattle.std.specs.Str.Parse.{IsNumeral, digits_value, without_leading_plus}
use Rattle.std.specs.Str.{bytes_eq, chars}
use Rattle.clap.specs.Words.{Text}
use Rattle.fx_command_line.specs.declared.words.Call.{Call}
use Rattle.fx_command_line.specs.declared.words.Call.TheVariants.{Audit, Check, Collect, Confirm, Draw, Explain, Join, Lint, Replay, Run, Sum}

-- an argument that begins with `-` (45) and has further characters
abbrev pub is_flag : Text → Bool
is_flag [] = false
is_flag (first ∷ rest) = first == 45 && is_some (slice_get (chars rest) 0)

abbrev pub is_double_hyphen : Text → Bool
is_double_hyphen word = bytes_eq word (45 ∷ 45 ∷ [])

-- The files that the arguments after a command name: each argument is a file's name. No flag may be among them; after
-- `--`, which names no file itself, an argument that begins with `-` is a file's name too.
abbrev pub file_names : List Text → Option (List Text)
file_names [] = Some []
file_names (word ∷ rest) =
    if is_double_hyphen word then Some rest
    else (if is_flag word then None else option_map (λ names. word ∷ names) (file_names rest))

-- the arguments are the program's own name, this command, and arguments that name these files
pub record NamesFiles (words : List Text) (command : Text) (files : List Text) : Type 0 where
  pub program : Text
  pub rest : List Text
  pub words_are : words ≡ program ∷ command ∷ rest
  pub files_are : file_names rest ≡ Some files

-- an optional file
abbrev pub file_given : Option Text → List Text
file_given None = []
file_given (Some file) = file ∷ []

-- The text is this limit, a whole number from 1 to 1,000,000, in decimal digits. Leading zeros are allowed, and a plus
-- before them, since Rust reads such texts as numbers.
abbrev pub IsLimit : Text → ℕ → Type 0
IsLimit text limit =
    IsNumeral 10 (without_leading_plus text) × (digits_value 10 (without_leading_plus text) ≡ limit) × (1 ≤ limit)
    × (limit ≤ 1000000)

-- `--NAME TEXT`, where the text is no flag, or `--NAME=TEXT` (61 is `=`)
abbrev pub SetsOption : Text → List Text → Text → Type 0
SetsOption name words text =
    ((words ≡ (codes "--" ++ name) ∷ text ∷ []) × (is_flag text ≡ false))
    ⊎ (words ≡ (codes "--" ++ (name ++ 61 ∷ text)) ∷ [])

-- The arguments after a command name these files and set this option to this text: the option is among the files'
-- names,
-- with no `--` before it.
pub record NamesWithOption (name : Text) (rest files : List Text) (text : Text) : Type 0 where
  pub before : List Text
  pub option : List Text
  pub after : List Text
  pub others : List Text
  pub words_are : rest ≡ before ++ (option ++ after)
  pub before_are : file_names before ≡ Some before
  pub option_is : SetsOption name option text
  pub after_are : file_names after ≡ Some others
  pub files_are : files ≡ before ++ others

-- the arguments after a command name these files, and set this option to this text or leave it out
abbrev pub NamesWith : Text → List Text → List Text → Option Text → Type 0
NamesWith name rest files None = file_names rest ≡ Some files
NamesWith name rest files (Some text) = NamesWithOption name rest files text

-- an audit's limit from its option; if the option is left out, the limit is 1,000,000
abbrev pub IsLimitSet : Option Text → ℕ → Type 0
IsLimitSet None limit = limit ≡ 1000000
IsLimitSet (Some text) limit = IsLimit text limit

-- the arguments are the program's own name, `audit`, and arguments that name these files and this limit
pub record NamesAudit (words : List Text) (files : List Text) (limit : ℕ) : Type 0 where
  pub program : Text
  pub rest : List Text
  pub option : Option Text
  pub words_are : words ≡ program ∷ codes "audit" ∷ rest
  pub named : NamesWith (codes "limit") rest files option
  pub limit_is : IsLimitSet option limit

-- the arguments are the program's own name, `run`, and arguments that name these files and this prefix of the links'
-- files, if any
pub record NamesRun (words : List Text) (files : List Text) (links : Option Text) : Type 0 where
  pub program : Text
  pub rest : List Text
  pub words_are : words ≡ program ∷ codes "run" ∷ rest
  pub named : NamesWith (codes "links") rest files links

-- the arguments are the program's own name, `draw`, and arguments that name these files and this class, if any
pub record NamesDraw (words : List Text) (files : List Text) (class : Option Text) : Type 0 where
  pub program : Text
  pub rest : List Text
  pub words_are : words ≡ program ∷ codes "draw" ∷ rest
  pub named : NamesWith (codes "class") rest files class

-- the same of a network, a declaration of traffic if one is given, and the text of an answer about both if that is
-- given too
abbrev pub NamesDrawing : List Text → Text → Option Text → Option Text → Option Text → Type 0
NamesDrawing words network None None class = NamesDraw words (network ∷ []) class
NamesDrawing words network (Some traffic) None class = NamesDraw words (network ∷ traffic ∷ []) class
NamesDrawing words network (Some traffic) (Some answer) class = NamesDraw words (network ∷ traffic ∷ answer ∷ []) class
NamesDrawing words network None (Some answer) class = ⊥

-- `once replay NETWORK TRAFFIC RUN`, `once collect NETWORK STREAM`, `once check NETWORK TRAFFIC CERTIFICATE`,
-- `once confirm NETWORK TRAFFIC REFUTATION`, `once audit NETWORK TRAFFIC [--limit N]`,
-- `once run NETWORK TRAFFIC CAPTURE SCHEDULE [--links PREFIX]`, `once lint NETWORK [TRAFFIC]`,
-- `once draw NETWORK [TRAFFIC [ANSWER]] [--class NAME]`, `once sum NETWORK TOTALS`, `once join NETWORK TRAFFIC PARTS`
-- and `once explain NUMBER`
abbrev pub Names : List Text → Call → Type 0
Names words (Replay network traffic run) =
    NamesFiles words (codes "replay") (string_bytes network ∷ string_bytes traffic ∷ string_bytes run ∷ [])
Names words (Collect network stream) = NamesFiles words (codes "collect")
    (string_bytes network ∷ string_bytes stream ∷ [])
Names words (Check network traffic certificate) =
    NamesFiles words (codes "check") (string_bytes network ∷ string_bytes traffic ∷ string_bytes certificate ∷ [])
Names words (Confirm network traffic refutation) =
    NamesFiles words (codes "confirm") (string_bytes network ∷ string_bytes traffic ∷ string_bytes refutation ∷ [])
Names words (Audit network traffic limit) = NamesAudit words (string_bytes network ∷ string_bytes traffic ∷ []) limit
Names words (Run network traffic capture schedule links) =
    NamesRun words (string_bytes network ∷ string_bytes traffic ∷ string_bytes capture ∷ string_bytes schedule ∷ [])
    (option_map string_bytes links)
Names words (Lint network traffic) = NamesFiles words (codes "lint")
    (string_bytes network ∷ file_given (option_map string_bytes traffic))
Names words (Draw network traffic answer class) =
    NamesDrawing words (string_bytes network) (option_map string_bytes traffic) (option_map string_bytes answer)
    (option_map string_bytes class)
Names words (Sum network totals) = NamesFiles words (codes "sum") (string_bytes network ∷ string_bytes totals ∷ [])
Names words (Join network traffic parts) =
    NamesFiles words (codes "join") (string_bytes network ∷ string_bytes traffic ∷ string_bytes parts ∷ [])
Names words (Explain number) = NamesFiles words (codes "explain") (string_bytes number ∷ [])

abbrev pub NamesNoCall : List Text → Type 0
NamesNoCall words = (call : Call) → Names words call → ⊥
