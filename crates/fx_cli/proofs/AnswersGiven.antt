-- How the program ends by its words, once what was written is handed on.
use Rattle.std.proofs.Common.{◌≡◌, ◌⊎◌, ◌&&◌, ◌==◌, ◌++◌, ℕ, Bool, true, false, sym, ap₂, subst, List, [], ◌∷◌, length, codes, Option, inl, inr}
use Rattle.std.specs.Prelude.{IfErr, IfOk, Result, Ok, Err}
use Rattle.clap.specs.Words.{Text}
use Rattle.fx_cli.specs.Arguments.{EndsAfterFlush}
use Rattle.fx_cli.specs.OptionFlag.{AddsHelp, wants_help}

-- a flush behind it
pub handed_on : {S : Type 0} (taken : S → Option (List ℕ)) (failed holds_back : S → Bool) (Ends : S → ℕ → Type 0)
    (mid new : S) (code last : ℕ) → Ends mid code
    → ((last ≡ code) × (failed new ≡ false) × (holds_back new ≡ false) × (taken new ≡ taken mid))
    ⊎ ((last ≡ 5) × (failed new ≡ true))
    → EndsAfterFlush taken failed holds_back Ends new last
handed_on taken failed holds_back Ends mid new code last ends (inl (same, fine, none, reported)) =
    inl (mid, subst (λ (n : ℕ). Ends mid n) (sym same) ends, reported, fine, none)
handed_on taken failed holds_back Ends mid new code last ends (inr fails) = inr fails

pub if_ok_handed : {A E S : Type 0} (taken : S → Option (List ℕ)) (failed holds_back : S → Bool)
    (Ends : A → S → ℕ → Type 0) (r : Result A E) (mid new : S) (code last : ℕ) → IfOk r (λ a. Ends a mid code)
    → ((last ≡ code) × (failed new ≡ false) × (holds_back new ≡ false) × (taken new ≡ taken mid))
    ⊎ ((last ≡ 5) × (failed new ≡ true))
    → IfOk r (λ a. EndsAfterFlush taken failed holds_back (λ then n. Ends a then n) new last)
if_ok_handed taken failed holds_back Ends (Ok a) mid new code last ends flushed =
    handed_on taken failed holds_back (λ then n. Ends a then n) mid new code last ends flushed
if_ok_handed taken failed holds_back Ends (Err e) mid new code last ends flushed = tt

pub if_err_handed : {A E S : Type 0} (taken : S → Option (List ℕ)) (failed holds_back : S → Bool)
    (Ends : E → S → ℕ → Type 0) (r : Result A E) (mid new : S) (code last : ℕ) → IfErr r (λ e. Ends e mid code)
    → ((last ≡ code) × (failed new ≡ false) × (holds_back new ≡ false) × (taken new ≡ taken mid))
    ⊎ ((last ≡ 5) × (failed new ≡ true))
    → IfErr r (λ e. EndsAfterFlush taken failed holds_back (λ then n. Ends e then n) new last)
if_err_handed taken failed holds_back Ends (Ok a) mid new code last ends flushed = tt
if_err_handed taken failed holds_back Ends (Err e) mid new code last ends flushed =
    handed_on taken failed holds_back (λ then n. Ends e then n) mid new code last ends flushed

-- `--help` stands behind the words where a person waits
pub helped : {A : Type 0} (text_of : A → Text) (old new : List A) (on_terminal : Bool) (help : A) → on_terminal ≡ true
    → length old ≡ 1 → text_of help ≡ codes "--help" → new ≡ old ++ help ∷ []
    → AddsHelp text_of old new (wants_help on_terminal old)
helped text_of old new on_terminal help waits one is added =
    let waiting : wants_help on_terminal old ≡ true = ap₂ (λ (b : Bool) (n : ℕ). b && (n == 1)) waits one in
    subst (λ (b : Bool). AddsHelp text_of old new b) (sym waiting) (help, is, added)
