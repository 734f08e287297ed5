-- How the program ends, depending on its arguments.
use Rattle.std.specs.Prelude.{◌≡◌, ◌⊎◌, ◌≤◌, ◌<◌, ℕ, Bool, true, false, List, length, map, Option}
use Rattle.clap.specs.Words.{Text}
use Rattle.fx_base.specs.Device.{KeepsGoing}
use Rattle.fx_command_line.specs.Words.{Names, NamesNoCall}
use Rattle.fx_command_line.specs.declared.words.Call.{Call}
use Rattle.fx_checker.specs.Ending.{EndsWith}
use Rattle.fx_cli.specs.Running.{EndsExplained, HasFailedExplained, IsBundleOutput, IsBundleRefusal, IsCallRefusal, IsCallText}
use Rattle.fx_cli.specs.OptionFlag.{AddsHelp, RemovesOptions, wants_help}
use Rattle.fx_cli.specs.InJson.{EndsInJson}
use Rattle.fx_cli.specs.ArgumentErrors.{EndsWithoutCall}
use Rattle.fx_checker.specs.Running.{EndsAs, HasFailedToWrite, IsRefusal}
use Rattle.fx_checker.specs.Arguments.{memory_line}

-- the arguments after the program's name name a call, which is answered; without such arguments, the bundle on standard
-- input is
pub record EndsByArguments {A S : Type 0} (text_of : A → Text) (taken : S → Option (List ℕ)) (failed : S → Bool)
    (arguments : List A) (old new : S) (code : ℕ) : Type 0 where
  pub bundle : length arguments < 2 → EndsAs IsBundleOutput (IsRefusal IsBundleRefusal) (taken old) (taken new)
      (KeepsGoing (failed old) (failed new)) (HasFailedToWrite taken failed new) code
  pub call : (call : Call) → Names (map text_of arguments) call
      → EndsAs (IsCallText call) (IsCallRefusal call) (taken old) (taken new) (KeepsGoing (failed old) (failed new))
      (HasFailedToWrite taken failed new) code
  pub no_call : 2 ≤ length arguments → NamesNoCall (map text_of arguments)
      → EndsWithoutCall taken failed (map text_of arguments) old new code

-- the same with an explanation after the answer
pub record EndsByArgumentsExplained {A S : Type 0} (text_of : A → Text) (taken : S → Option (List ℕ))
    (failed : S → Bool) (arguments : List A) (old new : S) (code : ℕ) : Type 0 where
  pub bundle : length arguments < 2 → EndsExplained IsBundleOutput (IsRefusal IsBundleRefusal) (taken old) (taken new)
      (KeepsGoing (failed old) (failed new)) (HasFailedExplained taken failed new) code
  pub call : (call : Call) → Names (map text_of arguments) call
      → EndsExplained (IsCallText call) (IsCallRefusal call) (taken old) (taken new)
      (KeepsGoing (failed old) (failed new)) (HasFailedExplained taken failed new) code
  pub no_call : 2 ≤ length arguments → NamesNoCall (map text_of arguments)
      → EndsWithoutCall taken failed (map text_of arguments) old new code

-- the same with a JSON object; if the call itself runs out of memory, the line of that refusal is written
pub record EndsByArgumentsInJson {A S : Type 0} (text_of : A → Text) (taken : S → Option (List ℕ)) (failed : S → Bool)
    (arguments : List A) (old new : S) (code : ℕ) : Type 0 where
  pub bundle : length arguments < 2 → EndsInJson IsBundleOutput (IsRefusal IsBundleRefusal) taken failed old new code
  pub call : (call : Call) → Names (map text_of arguments) call
      → EndsInJson (IsCallText call) (IsCallRefusal call) taken failed old new code
      ⊎ EndsWith taken failed memory_line 4 old new code
  pub no_call : 2 ≤ length arguments → NamesNoCall (map text_of arguments)
      → EndsWithoutCall taken failed (map text_of arguments) old new code

-- a JSON object (`true` first), an explanation after the answer (`true` second), or the answer alone
abbrev pub EndsInForm : Bool → Bool → {A S : Type 0} → (A → Text) → (S → Option (List ℕ)) → (S → Bool) → List A → S → S
    → ℕ → Type 0
EndsInForm true explained text_of taken failed arguments old new code =
    EndsByArgumentsInJson text_of taken failed arguments old new code
EndsInForm false false text_of taken failed arguments old new code =
    EndsByArguments text_of taken failed arguments old new code
EndsInForm false true text_of taken failed arguments old new code =
    EndsByArgumentsExplained text_of taken failed arguments old new code

-- the options `--progress`, `--explain` and `--format json` are removed, and the rest is answered in the form that they
-- request
abbrev pub EndsByOptions : {A S : Type 0} → (A → Text) → (S → Option (List ℕ)) → (S → Bool) → List A → S → S → ℕ
    → Type 0
EndsByOptions {A} {S} text_of taken failed given old new code =
    (rest : List A) × (json : Bool) × (explained : Bool) × (progress : Bool)
    × RemovesOptions text_of given rest json explained progress
    × EndsInForm json explained text_of taken failed rest old new code

-- the arguments from the system are answered by their options, with `--help` added if there are none at a terminal,
-- unless that runs out of memory
abbrev pub EndsByGivenArguments : {A S : Type 0} → (A → Text) → (S → Option (List ℕ)) → (S → Bool) → Bool → List A → S
    → S → ℕ → Type 0
EndsByGivenArguments {A} {S} text_of taken failed on_terminal arguments old new code =
    ((given : List A) × AddsHelp text_of arguments given (wants_help on_terminal arguments)
    × EndsByOptions text_of taken failed given old new code)
    ⊎ EndsWith taken failed memory_line 4 old new code

-- all output is flushed, and the program ends as it would have before the flush; or the flush fails, and it ends with 5
abbrev pub EndsAfterFlush : {S : Type 0} → (S → Option (List ℕ)) → (S → Bool) → (S → Bool) → (S → ℕ → Type 0) → S → ℕ
    → Type 0
EndsAfterFlush {S} taken failed holds_back Ends new code =
    ((then : S) × Ends then code × (taken new ≡ taken then) × (failed new ≡ false) × (holds_back new ≡ false))
    ⊎ ((code ≡ 5) × (failed new ≡ true))
