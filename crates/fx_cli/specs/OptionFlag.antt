-- Options that every command accepts: `--explain`, `--format json` and `--progress`.
use Rattle.std.specs.Prelude.{◌≡◌, ◌⊎◌, ◌≤◌, ◌<◌, ◌+◌, ◌==◌, ◌&&◌, ◌||◌, ◌++◌, ℕ, Bool, true, false, List, [], ◌∷◌, drop, length, take, Option, None, Some, codes, slice_get}
use Rattle.std.specs.List.{remove}
use Rattle.std.specs.Str.{bytes_eq}
use Rattle.clap.specs.Words.{Text}

abbrev pub is_flag : Text → Text → Bool
is_flag flag word = bytes_eq word flag

abbrev pub is_last_flag : Text → Bool
is_last_flag word = bytes_eq word (codes "--")

-- none of the arguments after the program's name, up to an index, is the option or `--`
abbrev pub IsUnmarked : {A : Type 0} → Text → (A → Text) → List A → ℕ → Type 0
IsUnmarked {A} flag text_of words end =
    (place : ℕ) (word : A) → 1 ≤ place → place < end → slice_get words place ≡ Some word
    → (is_flag flag (text_of word) ≡ false) × (is_last_flag (text_of word) ≡ false)

-- the index of an option: after the program's name, the first of its kind, and before any `--`
abbrev pub IsFlagPlace : {A : Type 0} → Text → (A → Text) → List A → Option ℕ → Type 0
IsFlagPlace {A} flag text_of words (Some place) =
    IsUnmarked flag text_of words place × (1 ≤ place)
    × ((word : A) × (slice_get words place ≡ Some word) × (is_flag flag (text_of word) ≡ true))
IsFlagPlace {A} flag text_of words None =
    (end : ℕ) × IsUnmarked flag text_of words end
    × ((length words ≤ end) ⊎ ((word : A) × (slice_get words end ≡ Some word)
    × (is_last_flag (text_of word) ≡ true)))

-- the option is among the arguments, and its first occurrence is removed (`true`); or it isn't, and they are unchanged
-- (`false`)
abbrev pub RemovesFlag : {A : Type 0} → Text → (A → Text) → List A → List A → Bool → Type 0
RemovesFlag {A} flag text_of old new true = (place : ℕ) × IsFlagPlace flag text_of old (Some place)
    × (new ≡ take place old ++ drop (place + 1) old)
RemovesFlag {A} flag text_of old new false = IsFlagPlace flag text_of old None × (new ≡ old)

-- the argument at this index is the text (`true`); or it is another, or there is none (`false`)
abbrev pub IsAt : {A : Type 0} → Text → (A → Text) → List A → ℕ → Bool → Type 0
IsAt {A} text text_of words index true = (word : A) × (slice_get words index ≡ Some word)
    × (bytes_eq (text_of word) text ≡ true)
IsAt {A} text text_of words index false = (word : A) → slice_get words index ≡ Some word → bytes_eq (text_of word) text
    ≡ false

-- the argument after this index is the value, and both are removed (`true`); or it isn't, and the arguments are
-- unchanged (`false`)
abbrev pub RemovesBoth : {A : Type 0} → Text → (A → Text) → ℕ → List A → List A → Bool → Type 0
RemovesBoth {A} value text_of place old new true = IsAt value text_of old (place + 1) true
    × (new ≡ remove (remove old (place + 1)) place)
RemovesBoth {A} value text_of place old new false = IsAt value text_of old (place + 1) false × (new ≡ old)

-- the option is among the arguments and is followed by this value, and both are removed (`true`); or the option is
-- absent or has another value, and the arguments are unchanged (`false`)
abbrev pub RemovesOption : {A : Type 0} → Text → Text → (A → Text) → List A → List A → Bool → Type 0
RemovesOption {A} flag value text_of old new true =
    (place : ℕ) × IsFlagPlace flag text_of old (Some place) × RemovesBoth value text_of place old new true
RemovesOption {A} flag value text_of old new false =
    (IsFlagPlace flag text_of old None × (new ≡ old))
    ⊎ ((place : ℕ) × IsFlagPlace flag text_of old (Some place) × RemovesBoth value text_of place old new false)

-- `--format json` is removed if it is among the arguments, then `--format=json`; `json` says whether either was present
pub record RemovesFormat {A : Type 0} (text_of : A → Text) (given rest : List A) (json : Bool) : Type 0 where
  pub mid : List A
  pub apart : Bool
  pub joined : Bool
  pub apart_is : RemovesOption (codes "--format") (codes "json") text_of given mid apart
  pub joined_is : RemovesFlag (codes "--format=json") text_of mid rest joined
  pub json_is : json ≡ (apart || joined)

-- `--progress` is removed if it is among the arguments, then `--explain`, then the format
pub record RemovesOptions {A : Type 0} (text_of : A → Text) (given rest : List A) (json explained progress : Bool) :
    Type 0 where
  pub unmeasured : List A
  pub unexplained : List A
  pub progress_is : RemovesFlag (codes "--progress") text_of given unmeasured progress
  pub explain_is : RemovesFlag (codes "--explain") text_of unmeasured unexplained explained
  pub format_is : RemovesFormat text_of unexplained rest json

-- `--help` is added after the arguments (`true`), or they are unchanged (`false`)
abbrev pub AddsHelp : {A : Type 0} → (A → Text) → List A → List A → Bool → Type 0
AddsHelp {A} text_of old new true = (help : A) × (text_of help ≡ codes "--help") × (new ≡ old ++ help ∷ [])
AddsHelp {A} text_of old new false = new ≡ old

-- the program runs at a terminal, and its name is the only argument
abbrev pub wants_help : {A : Type 0} → Bool → List A → Bool
wants_help {A} on_terminal arguments = on_terminal && (length arguments == 1)
