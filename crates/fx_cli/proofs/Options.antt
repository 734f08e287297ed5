-- Options and their values.
use Rattle.std.proofs.Common.{◌≡◌, ◌∙◌, ℕ, Bool, true, false, List, Option, Some, sym, ap, inr}
use Rattle.std.specs.Prelude.{slice_get, unwrap_or}
use Rattle.std.specs.Str.{bytes_eq}
use Rattle.clap.specs.Words.{Text}
use Rattle.fx_cli.specs.OptionFlag.{IsAt, IsFlagPlace, RemovesBoth, RemovesOption}

-- the argument at an index is compared with a text
pub compared : {A : Type 0} (text : Text) (text_of : A → Text) (words : List A) (index : ℕ) (word : A) (b : Bool)
    → slice_get words index ≡ Some word → b ≡ bytes_eq (text_of word) text → IsAt text text_of words index b
compared text text_of words index word true at is = (word, at, sym is)
compared text text_of words index word false at is = λ other there.
    ap (λ w. bytes_eq (text_of w) text) (sym (ap (λ (o : Option _). unwrap_or o word) there)
    ∙ ap (λ (o : Option _). unwrap_or o word) at) ∙ sym is

-- the option's place is found, and its value judged
pub found : {A : Type 0} (flag value : Text) (text_of : A → Text) (place : ℕ) (old new : List A) (b : Bool)
    → IsFlagPlace flag text_of old (Some place) → RemovesBoth value text_of place old new b
    → RemovesOption flag value text_of old new b
found flag value text_of place old new true at both = (place, at, both)
found flag value text_of place old new false at both = inr (place, at, both)
