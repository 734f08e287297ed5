-- What one word of a command line is: a flag, which is answered with an error, `--`, or a value.
use Rattle.std.proofs.Common.{◌||◌, ◌==◌, ◌≡◌, ◌∙◌, ◌⊎◌, ℕ, Bool, cond, true, false, refl, sym, ap, subst, List, [], ◌∷◌, length, Option, Some, None, inl, inr, true≢false, codes}
use Rattle.std.specs.Str.{bytes_eq, chars}
use Rattle.std.specs.Prelude.{drop, encode_utf8, slice_get, is_some}
use Rattle.clap.specs.Walk.{Held, Names, Row, Rule, Text, idle, value, word_met, subcommand_met, subcommand_or_other, plain, arg_by_long, arg_by_short, reacted, settled}
use Rattle.clap.specs.Simple.{Shape, built, filled, help_rule, version_rule}
use Rattle.clap.specs.Kinds.{Kinds, or_else}
use Rattle.clap.specs.Faults.{other_fault, long_fault, short_fault, flags_fault, bundle_step_fault, react_fault, settle_fault, use_fault, word_fault}
use Rattle.clap.proofs.WalkLemmas.{bundle_ends}
use Rattle.clap.proofs.FaultLemmas.{fault_ends}
use Rattle.std.proofs.lemmas.Bool.{eqb-true}
use Rattle.clap.specs.Lexer.{name_and_value, long_of, short_of}
use Rattle.fx_command_line.specs.Words.{is_double_hyphen, is_flag}
use Rattle.fx_command_line.specs.CommandLine.{once_app}

-- ---- lists of kinds

abbrev pub Fails : Kinds → Type 0
Fails [] = ⊥
Fails (k ∷ ks) = Unit {0}

pub fails_second : (a b : Kinds) → Fails b → Fails (or_else a b)
fails_second [] b h = h
fails_second (k ∷ ks) b h = tt

pub fails_first : (a b : Kinds) → Fails a → Fails (or_else a b)
fails_first [] b h = elim h [ ]
fails_first (k ∷ ks) b h = h

pub or_none : (a : Kinds) → or_else a [] ≡ a
or_none [] = refl
or_none (k ∷ ks) = refl

-- ---- the program, as it is built

abbrev pub top : Shape
top = (built once_app).top

-- ---- flags: help is answered with an error too, and no other is known

abbrev pub help : Rule
help = filled help_rule

pub asks_help : (c : List Rule) (h : Held) → Fails (react_fault c false help [] h)
asks_help c h = fails_second (settle_fault c false h) (use_fault false help [] (settled c h).rows) tt

pub long_fails : (c : List Rule) (b : Bool) (v : Option Text) (h : Held)
    → Fails (long_fault c false (cond b (Some help) None) v h)
long_fails c false v h = tt
long_fails c true (Some v) h = tt
long_fails c true None h = asks_help c h

pub short_fails : (c : List Rule) (b : Bool) (rest : Text) (h : Held) (next : Held → Kinds)
    → Fails (short_fault c false (cond b (Some help) None) rest h next)
short_fails c false rest h next = tt
short_fails c true rest h next = fails_first (react_fault c false help [] h) (next (reacted c help [] h))
    (asks_help c h)

-- the version is answered with an error too
abbrev version : Rule
version = filled version_rule

asks_version : (c : List Rule) (h : Held) → Fails (react_fault c false version [] h)
asks_version c h = fails_second (settle_fault c false h) (use_fault false version [] (settled c h).rows) tt

long_either : (c : List Rule) (a b : Bool) (v : Option Text) (h : Held)
    → Fails (long_fault c false (cond a (Some help) (cond b (Some version) None)) v h)
long_either c true b v h = long_fails c true v h
long_either c false false v h = tt
long_either c false true (Some v) h = tt
long_either c false true None h = asks_version c h

short_either : (c : List Rule) (a b : Bool) (rest : Text) (h : Held) (next : Held → Kinds)
    → Fails (short_fault c false (cond a (Some help) (cond b (Some version) None)) rest h next)
short_either c true b rest h next = short_fails c true rest h next
short_either c false false rest h next = tt
short_either c false true rest h next =
    fails_first (react_fault c false version [] h) (next (reacted c version [] h)) (asks_version c h)

-- the command answers each flag that it knows by help, or its version
pub record KnowsHelp (s : Shape) : Type 0 where
  pub again : s.args_override_self ≡ false
  pub long : (name : Text) (v : Option Text) (h : Held)
      → Fails (long_fault s.rules s.args_override_self (arg_by_long s.rules name) v h)
  pub short : (x : ℕ) (rest : Text) (h : Held) (next : Held → Kinds)
      → Fails (short_fault s.rules s.args_override_self (arg_by_short s.rules x) rest h next)

pub top_knows : KnowsHelp top
top_knows = record {
  again = refl;
  long = λ name v h. long_either top.rules (bytes_eq (codes "help") name || false)
      (bytes_eq (codes "version") name || false) v h;
  short = λ x rest h next. short_either top.rules (104 == x || false) (86 == x || false) rest h next;
}

-- ---- what a word is, where no value is awaited

abbrev pub held : List Row → Option (Text × List Text) → Held
held rows pending = record { rows = rows; pending = pending; skip = 0 }

-- a word that goes to a positional argument
pub record IsValueWord (s : Shape) (names : Names) (trails : Bool) (word : Text) : Type 0 where
  pub met : (position : ℕ) (rows : List Row) (pending : Option (Text × List Text))
      → word_met s.rules names trails idle position word (held rows pending) ≡ (held rows pending, value)
  pub fine : (rows : List Row) (pending : Option (Text × List Text))
      → word_fault s names trails idle word (held rows pending) ≡ []

pub trailing_word : (s : Shape) (names : Names) (word : Text) → IsValueWord s names true word
trailing_word s names word = record { met = λ position rows pending. refl; fine = λ rows pending. refl }

-- what a word that names no command is goes by itself
pub as_word : (s : Shape) (names : Names) (word : Text) → subcommand_met names idle word ≡ None
    → ((position : ℕ) (rows : List Row) (pending : Option (Text × List Text))
    → subcommand_or_other s.rules None idle position word (held rows pending) ≡ (held rows pending, value))
    → ((rows : List Row) (pending : Option (Text × List Text)) → other_fault s None word (held rows pending) ≡ [])
    → IsValueWord s names false word
as_word s names word none met fine = record {
  met = λ position rows pending. ap (λ o. subcommand_or_other s.rules o idle position word (held rows pending)) none
      ∙ met position rows pending;
  fine = λ rows pending. ap (λ o. other_fault s o word (held rows pending)) none ∙ fine rows pending;
}

pub no_hyphen : (s : Shape) (names : Names) (word : Text) → subcommand_met names idle word ≡ None
    → is_double_hyphen word ≡ false
    → long_of word ≡ None → short_of word ≡ None → IsValueWord s names false word
no_hyphen s names word none double long short =
    as_word s names word none (λ position rows pending. rw (double, long, short) refl)
    (λ rows pending. rw (double, long, short) refl)

-- a hyphen and then no character, which is no text
pub no_text : (s : Shape) (names : Names) (word : Text) (flags : Text) → subcommand_met names idle word ≡ None
    → is_double_hyphen word ≡ false
    → long_of word ≡ None → short_of word ≡ Some flags → slice_get (chars flags) 0 ≡ None
    → IsValueWord s names false word
no_text s names word flags none double long short empty =
    as_word s names word none
    (λ position rows pending. let ends = bundle_ends s.rules (length flags) flags 0 plain (held rows pending)
    (sym empty) in rw (double, long, short, ← ends) refl)
    (λ rows pending. let ends = fault_ends s.rules s.args_override_self (length flags) flags 0 (held rows pending)
    (sym empty) in rw (double, long, short, ← ends) refl)

pub bool_cases : (b : Bool) → (b ≡ true) ⊎ (b ≡ false)
bool_cases true = inl refl
bool_cases false = inr refl

pub first_char : (rest : Text) → is_some (slice_get (chars (45 ∷ rest)) 0) ≡ true
unfolding chars
first_char [] = refl
first_char (x ∷ xs) = refl

pub option_cases : (o : Option ℕ) → is_some o ≡ false → o ≡ None
option_cases None e = refl
option_cases (Some x) e = absurd (true≢false e)

-- a word that is neither a flag nor `--`: no long flag, and no short one with a character
abbrev pub IsNoFlag : Text → Type 0
IsNoFlag word = (long_of word ≡ None) × ((short_of word ≡ None)
    ⊎ ((flags : Text) × (short_of word ≡ Some flags) × (slice_get (chars flags) 0 ≡ None)))

pub plain_form : (word : Text) → is_double_hyphen word ≡ false → is_flag word ≡ false → IsNoFlag word
plain_form [] double flag = (refl, inl refl)
plain_form (x ∷ []) double flag = elim (bool_cases (x == 45)) [
  | inl hyphen ↦ (rw hyphen refl, inl (rw hyphen refl))
  | inr other ↦ (rw other refl, inl (rw other refl))
]
plain_form (x ∷ y ∷ ys) double flag = elim (bool_cases (x == 45)) [
  | inl hyphen ↦ elim (bool_cases (y == 45)) [
    | inl second ↦
        let is : y ≡ 45 = eqb-true y 45 second in
        let some : is_some (slice_get (chars (y ∷ ys)) 0) ≡ true =
        subst (λ z. is_some (slice_get (chars (z ∷ ys)) 0) ≡ true) (sym is) (first_char ys) in
        let none_there : is_some (slice_get (chars (y ∷ ys)) 0) ≡ false = rw hyphen at flag in
        absurd (true≢false (sym some ∙ none_there))
    | inr single ↦
        let none_there : is_some (slice_get (chars (y ∷ ys)) 0) ≡ false = rw hyphen at flag in
        (rw (hyphen, single) refl, inr (y ∷ ys, rw (hyphen, single) refl, option_cases _ none_there))
  ]
  | inr other ↦ (rw other refl, inl (rw other refl))
]

pub plain_word : (s : Shape) (names : Names) (word : Text) → subcommand_met names idle word ≡ None
    → is_double_hyphen word ≡ false → is_flag word ≡ false
    → IsValueWord s names false word
plain_word s names word none double flag =
    let form = plain_form word double flag in
    elim form.1 [
      | inl short ↦ no_hyphen s names word none double form.0 short
      | inr empty ↦ no_text s names word empty.0 none double form.0 empty.1 empty.2
    ]

-- a flag is answered with an error
pub record IsRefusedWord (s : Shape) (names : Names) (word : Text) : Type 0 where
  pub fails : (rows : List Row) (pending : Option (Text × List Text))
      → Fails (word_fault s names false idle word (held rows pending))

-- a long flag, or a bundle of short ones with a first character
abbrev pub IsLongFlag : Text → Type 0
IsLongFlag word = (p : Text × Option Text) × (long_of word ≡ Some p)

abbrev pub IsShortFlag : Text → Type 0
IsShortFlag word = (y : ℕ) × (ys : Text) × (long_of word ≡ None) × (short_of word ≡ Some (y ∷ ys))
    × (is_some (slice_get (chars (y ∷ ys)) 0) ≡ true)

hyphen_form : (x : ℕ) (xs : Text) → is_double_hyphen (x ∷ xs) ≡ false → (x == 45) ≡ true
    → is_some (slice_get (chars xs) 0) ≡ true → IsLongFlag (x ∷ xs) ⊎ IsShortFlag (x ∷ xs)
unfolding chars
hyphen_form x [] double hyphen some = absurd (true≢false (sym some))
hyphen_form x (y ∷ []) double hyphen some = elim (bool_cases (y == 45)) [
  | inl second ↦ let not_double : true ≡ false = rw (hyphen, second) at double in absurd (true≢false not_double)
  | inr single ↦ inr (y, [], rw (hyphen, single) refl, rw (hyphen, single) refl, some)
]
hyphen_form x (y ∷ z ∷ zs) double hyphen some = elim (bool_cases (y == 45)) [
  | inl second ↦ inl (name_and_value (z ∷ zs), rw (hyphen, second) refl)
  | inr single ↦ inr (y, z ∷ zs, rw (hyphen, single) refl, rw (hyphen, single) refl, some)
]

pub flag_form : (word : Text) → is_double_hyphen word ≡ false → is_flag word ≡ true → IsLongFlag word ⊎ IsShortFlag word
flag_form [] double flag = absurd (true≢false (sym flag))
flag_form (x ∷ xs) double flag = elim (bool_cases (x == 45)) [
  | inr other ↦ let not_one : false ≡ true = rw other at flag in absurd (true≢false (sym not_one))
  | inl hyphen ↦ let some : is_some (slice_get (chars xs) 0) ≡ true = rw hyphen at flag in
      hyphen_form x xs double hyphen some
]

some_of : (o : Option ℕ) → is_some o ≡ true → (x : ℕ) × (o ≡ Some x)
some_of None e = absurd (true≢false (sym e))
some_of (Some x) e = (x, refl)

-- where this is held, each short flag fails
abbrev pub RefusesShort : Shape → Held → Type 0
RefusesShort s h = (x : ℕ) (rest : Text) (next : Held → Kinds)
    → Fails (short_fault s.rules s.args_override_self (arg_by_short s.rules x) rest h next)

bundle_fails : (s : Shape) (y : ℕ) (ys : Text) (h : Held) → RefusesShort s h → is_some (slice_get (chars (y ∷ ys)) 0)
    ≡ true
    → Fails (flags_fault s.rules s.args_override_self (length (y ∷ ys)) (y ∷ ys) 0 h)
unfolding flags_fault
bundle_fails s y ys h short some =
    let first = some_of (slice_get (chars (y ∷ ys)) 0) some in
    subst (λ o. Fails (bundle_step_fault s.rules s.args_override_self o (y ∷ ys) 0 h
    (flags_fault s.rules s.args_override_self (length ys)))) (sym first.1)
    (short first.0 (drop (length (encode_utf8 first.0)) (y ∷ ys))
    (flags_fault s.rules s.args_override_self (length ys) (drop (length (encode_utf8 first.0)) (y ∷ ys)) 0))

pub short_refused : (s : Shape) (word : Text) (rows : List Row) (pending : Option (Text × List Text))
    → is_double_hyphen word ≡ false → IsShortFlag word → RefusesShort s (held rows pending)
    → Fails (other_fault s None word (held rows pending))
short_refused s word rows pending double (y, ys, long, is, some) short =
    rw (double, long, is) (bundle_fails s y ys (held rows pending) short some)

pub long_refused : (s : Shape) (word : Text) (rows : List Row) (pending : Option (Text × List Text)) (name : Text)
    (v : Option Text) → is_double_hyphen word ≡ false → long_of word ≡ Some (name, v)
    → Fails (long_fault s.rules s.args_override_self (arg_by_long s.rules name) v (held rows pending))
    → Fails (other_fault s None word (held rows pending))
long_refused s word rows pending name v double long fails = rw (double, long) fails

pub flag_word : (s : Shape) (names : Names) (word : Text) → KnowsHelp s → subcommand_met names idle word ≡ None
    → is_double_hyphen word ≡ false → is_flag word ≡ true
    → IsRefusedWord s names word
flag_word s names word known none double flag = record {
  fails = λ rows pending.
      subst (λ o. Fails (other_fault s o word (held rows pending))) (sym none) (elim (flag_form word double flag) [
        | inl long ↦ long_refused s word rows pending long.0.0 long.0.1 double long.1
            (known.long long.0.0 long.0.1 (held rows pending))
        | inr short ↦ short_refused s word rows pending double short
            (λ x rest next. known.short x rest (held rows pending) next)
      ]);
}
