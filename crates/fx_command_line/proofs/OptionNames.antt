-- The words behind a command with an option, by their first: what they name and set where it is a file's name, `--`,
-- the
-- option or another flag.
use Rattle.std.proofs.Common.{◌≡◌, ◌∙◌, ◌⊎◌, ◌==◌, ◌+◌, ℕ, suc, drop, take, ap₂, cond, Bool, true, false, refl, sym, ap, arith, List, [], ◌∷◌, ◌++◌, length, Option, Some, None, inl, inr, true≢false, is_some}
use Rattle.std.specs.Prelude.{option_map, unwrap_or}
use Rattle.std.specs.List.{position_or_len}
use Rattle.std.proofs.lemmas.Bool.{eqb-true}
use Rattle.clap.specs.Lexer.{has_byte, long_of, long_of_rest, name_and_value}
use Rattle.clap.specs.Words.{Text}
use Rattle.fx_command_line.specs.Words.{NamesWith, NamesWithOption, SetsOption, file_names, is_double_hyphen, is_flag}
use Rattle.fx_command_line.proofs.WordSteps.{more_named}
use Rattle.fx_command_line.proofs.SingleWords.{bool_cases, first_char}

-- ---- how a flag is written

abbrev written : Text → Option Text → Text
written name None = name
written name (Some value) = name ++ 61 ∷ value

-- what stands before and behind a place, one place further on
longer : (x : ℕ) (xs : Text) (p : ℕ) (b : Bool) → x ∷ written (take p xs) (cond b (Some (drop (p + 1) xs)) None)
    ≡ written (take (1 + p) (x ∷ xs)) (cond b (Some (drop ((1 + p) + 1) (x ∷ xs))) None)
longer x xs p false = let one : suc p ≡ 1 + p = omega arith in ap (λ (n : ℕ). take n (x ∷ xs)) one
longer x xs p true =
    let one : suc p ≡ 1 + p = omega arith in
    let two : suc (p + 1) ≡ (1 + p) + 1 = omega arith in
    ap₂ (λ (a b : Text). a ++ 61 ∷ b) (ap (λ (n : ℕ). take n (x ∷ xs)) one) (ap (λ (n : ℕ). drop n (x ∷ xs)) two)

parts : (text : Text) → text ≡ written (name_and_value text).0 (name_and_value text).1
parts [] = refl
parts (x ∷ xs) = elim (bool_cases (x == 61)) [
  | inl is ↦ rw is (ap (λ y. y ∷ xs) (eqb-true x 61 is))
  | inr other ↦ rw other (ap (λ rest. x ∷ rest) (parts xs)
      ∙ longer x xs (position_or_len (λ y. y == 61) xs) (has_byte 61 xs))
]

some_pair : (p q : Text × Option Text) → Some p ≡ Some q → p ≡ q
some_pair p q e = ap (λ (o : Option (Text × Option Text)). unwrap_or o p) e

-- a long flag is two hyphens and what was read of it
pub long_written : (word name : Text) (value : Option Text) → long_of word ≡ Some (name, value) → word ≡ 45 ∷ 45
    ∷ written name value
long_written [] name value e = absurd (true≢false (sym (ap is_some e)))
long_written (x ∷ []) name value e = elim (bool_cases (x == 45)) [
  | inl is ↦ let none : None ≡ Some (name, value) = rw is at e in absurd (true≢false (sym (ap is_some none)))
  | inr other ↦ let none : None ≡ Some (name, value) = rw other at e in absurd (true≢false (sym (ap is_some none)))
]
long_written (x ∷ y ∷ ys) name value e = elim (bool_cases (x == 45)) [
  | inr other ↦ let none : None ≡ Some (name, value) = rw other at e in absurd (true≢false (sym (ap is_some none)))
  | inl first ↦ elim (bool_cases (y == 45)) [
    | inr other ↦ let none : None ≡ Some (name, value) = rw (first, other) at e in
        absurd (true≢false (sym (ap is_some none)))
    | inl second ↦ behind x y ys (eqb-true x 45 first) (eqb-true y 45 second) (rw (first, second) at e)
  ]
]
  where
    behind : (x y : ℕ) (ys : Text) → x ≡ 45 → y ≡ 45 → long_of_rest ys ≡ Some (name, value) → x ∷ y ∷ ys ≡ 45 ∷ 45
        ∷ written name value
    behind x y [] one two e = absurd (true≢false (sym (ap is_some e)))
    behind x y (z ∷ zs) one two e =
        let same : z ∷ zs ≡ written name value = parts (z ∷ zs)
        ∙ ap (λ (p : Text × Option Text). written p.0 p.1) (some_pair (name_and_value (z ∷ zs)) (name, value) e) in
        λ i. one i ∷ two i ∷ same i

-- ---- an option's name

-- how flags of this name are read
pub record IsName (name : Text) : Type 0 where
  pub alone : long_of (45 ∷ 45 ∷ name) ≡ Some (name, None)
  pub with_value : (value : Text) → long_of (45 ∷ 45 ∷ (name ++ 61 ∷ value)) ≡ Some (name, Some value)
  pub single : is_double_hyphen (45 ∷ 45 ∷ name) ≡ false
  pub single_with_value : (value : Text) → is_double_hyphen (45 ∷ 45 ∷ (name ++ 61 ∷ value)) ≡ false

-- ---- words by their first

abbrev first_word : List Text → Text
first_word [] = []
first_word (word ∷ rest) = word

abbrev rest_of : List Text → List Text
rest_of [] = []
rest_of (word ∷ rest) = rest

-- what stands where the option's words come first
pub record OptionFirst (name word : Text) (rest names : List Text) (text : Text) : Type 0 where
  pub after : List Text
  pub named : file_names after ≡ Some names
  pub words_are : ((word ≡ 45 ∷ 45 ∷ name) × (rest ≡ text ∷ after) × (is_flag text ≡ false))
      ⊎ ((word ≡ 45 ∷ 45 ∷ (name ++ 61 ∷ text)) × (rest ≡ after))

option_is_flag : {name word text : Text} {rest names : List Text} → OptionFirst name word rest names text → is_flag word
    ≡ true
option_is_flag {name} {word} {text} f = elim f.words_are [
  | inl two ↦ ap is_flag two.0 ∙ first_char name
  | inr one ↦ ap is_flag one.0 ∙ first_char (name ++ 61 ∷ text)
]

option_is_single : {name word text : Text} {rest names : List Text} → IsName name
    → OptionFirst name word rest names text → is_double_hyphen word ≡ false
option_is_single {name} {word} {text} is f = elim f.words_are [
  | inl two ↦ ap is_double_hyphen two.0 ∙ is.single
  | inr one ↦ ap is_double_hyphen one.0 ∙ is.single_with_value text
]

-- the option stands among words: its words come first, or the first word names a file
option_first : (name word : Text) (rest option after names : List Text) (text : Text) → word ∷ rest ≡ option ++ after
    → SetsOption name option text → file_names after ≡ Some names
    → OptionFirst name word rest names text
option_first name word rest option after names text are (inl (two, plain)) named =
    let whole : word ∷ rest ≡ (45 ∷ 45 ∷ name) ∷ text ∷ after = are ∙ ap (λ (o : List Text). o ++ after) two in
    record { after = after; named = named; words_are = inl (ap first_word whole, ap rest_of whole, plain) }
option_first name word rest option after names text are (inr one) named =
    let whole : word ∷ rest ≡ (45 ∷ 45 ∷ (name ++ 61 ∷ text)) ∷ after = are ∙ ap (λ (o : List Text). o ++ after) one in
    record { after = after; named = named; words_are = inr (ap first_word whole, ap rest_of whole) }

-- a first word that names a file, before the option
pub record FileFirst (name word : Text) (rest names : List Text) (text : Text) : Type 0 where
  pub others : List Text
  pub within : NamesWithOption name rest others text
  pub names_are : names ≡ word ∷ others
  pub single : is_double_hyphen word ≡ false
  pub plain : is_flag word ≡ false

some_list : (a b : List Text) → Some a ≡ Some b → a ≡ b
some_list a b e = ap (λ (o : Option (List Text)). unwrap_or o a) e

never_longer : (word : Text) (rest : List Text) → rest ≡ word ∷ rest → ⊥
never_longer word rest e = absurd (omega (arith, ap length e))

first_named : (word : Text) (rest : List Text) → file_names (word ∷ rest) ≡ Some (word ∷ rest)
    → (is_double_hyphen word ≡ false) × (is_flag word ≡ false) × (file_names rest ≡ Some rest)
first_named word rest e = elim (bool_cases (is_double_hyphen word)) [
  | inl double ↦ let there : Some rest ≡ Some (word ∷ rest) = rw double at e in
      absurd (never_longer word rest (some_list rest (word ∷ rest) there))
  | inr single ↦ elim (bool_cases (is_flag word)) [
    | inl flag ↦ let there : None ≡ Some (word ∷ rest) = rw (single, flag) at e in
        absurd (true≢false (sym (ap is_some there)))
    | inr plain ↦
        let there : option_map (λ names. word ∷ names) (file_names rest) ≡ Some (word ∷ rest) = rw (single, plain) at e
        in
        let m = more_named word (file_names rest) (word ∷ rest) there in
        (single, plain, m.1 ∙ ap Some (sym (ap rest_of m.2)))
  ]
]

by_first : (name word : Text) (rest before option after others names : List Text) (text : Text) → word ∷ rest ≡ before
    ++ (option ++ after) → file_names before ≡ Some before → SetsOption name option text
    → file_names after ≡ Some others → names ≡ before ++ others → OptionFirst name word rest names text
    ⊎ FileFirst name word rest names text
by_first name word rest [] option after others names text are before_are sets named is =
    inl (option_first name word rest option after names text are sets (named ∙ ap Some (sym is)))
by_first name word rest (b ∷ bs) option after others names text are before_are sets named is =
    let same : word ≡ b = ap first_word are in
    let first = first_named b bs before_are in
    inr (record {
      others = bs ++ others;
      within = record {
        before = bs;
        option = option;
        after = after;
        others = others;
        words_are =
            ap rest_of are;
        before_are = first.2;
        option_is = sets;
        after_are = named;
        files_are = refl;
      };
      names_are = is ∙ ap (λ w. w ∷ (bs ++ others)) (sym same);
      single = ap is_double_hyphen same ∙ first.0;
      plain = ap is_flag same ∙ first.1;
    })

with_option_first : (name word : Text) (rest names : List Text) (text : Text)
    → NamesWithOption name (word ∷ rest) names text
    → OptionFirst name word rest names text ⊎ FileFirst name word rest names text
with_option_first name word rest names text w =
    by_first name word rest w.before w.option w.after w.others names text w.words_are w.before_are w.option_is
    w.after_are w.files_are

-- nothing behind the command names no file and sets nothing
pub nothing_named : (name : Text) (names : List Text) (o : Option Text) → NamesWith name [] names o → (names ≡ [])
    × (o ≡ None)
nothing_named name names None e = (sym (some_list [] names e), refl)
nothing_named name names (Some text) w = absurd (none w.before w.option w.words_are w.option_is)
  where
    none : (before option : List Text) → [] ≡ before ++ (option ++ w.after) → SetsOption name option text → ⊥
    none (b ∷ bs) option are sets = absurd (omega (arith, ap length are))
    none [] option are (inl (two, plain)) = let whole : [] ≡ (45 ∷ 45 ∷ name) ∷ text ∷ w.after = are
        ∙ ap (λ (o : List Text). o ++ w.after) two in absurd (omega (arith, ap length whole))
    none [] option are (inr one) = let whole : [] ≡ (45 ∷ 45 ∷ (name ++ 61 ∷ text)) ∷ w.after = are
        ∙ ap (λ (o : List Text). o ++ w.after) one in absurd (omega (arith, ap length whole))

pub file_named : (name word : Text) (rest others : List Text) (o : Option Text) → is_double_hyphen word ≡ false
    → is_flag word ≡ false → NamesWith name rest others o
    → NamesWith name (word ∷ rest) (word ∷ others) o
file_named name word rest others None single plain e = rw (single, plain) (ap (option_map (λ names. word ∷ names)) e)
file_named name word rest others (Some text) single plain w = record {
  before = word ∷ w.before;
  option = w.option;
  after = w.after;
  others = w.others;
  words_are = ap (λ ws. word ∷ ws) w.words_are;
  before_are = rw (single, plain) (ap (option_map (λ names. word ∷ names)) w.before_are);
  option_is = w.option_is;
  after_are = w.after_are;
  files_are = ap (λ ws. word ∷ ws) w.files_are;
}

pub named_file : (name word : Text) (rest names : List Text) (o : Option Text) → is_double_hyphen word ≡ false
    → is_flag word ≡ false → NamesWith name (word ∷ rest) names o
    → (others : List Text) × NamesWith name rest others o × (names ≡ word ∷ others)
named_file name word rest names None single plain e =
    let there : option_map (λ ns. word ∷ ns) (file_names rest) ≡ Some names = rw (single, plain) at e in
    more_named word (file_names rest) names there
named_file name word rest names (Some text) single plain w = elim (with_option_first name word rest names text w) [
  | inl f ↦ absurd (true≢false (sym (option_is_flag f) ∙ plain))
  | inr f ↦ (f.others, f.within, f.names_are)
]

pub named_double : (name word : Text) (rest names : List Text) (o : Option Text) → IsName name → is_double_hyphen word
    ≡ true → NamesWith name (word ∷ rest) names o → (rest ≡ names) × (o ≡ None)
named_double name word rest names None is double e = let there : Some rest ≡ Some names = rw double at e in
    (some_list rest names there, refl)
named_double name word rest names (Some text) is double w = elim (with_option_first name word rest names text w) [
  | inl f ↦ absurd (true≢false (sym double ∙ option_is_single is f))
  | inr f ↦ absurd (true≢false (sym double ∙ f.single))
]

-- where a flag comes first, it is the option
pub named_flag : (name word : Text) (rest names : List Text) (o : Option Text) → is_double_hyphen word ≡ false
    → is_flag word ≡ true → NamesWith name (word ∷ rest) names o
    → (text : Text) × (o ≡ Some text) × OptionFirst name word rest names text
named_flag name word rest names None single flag e = let there : None ≡ Some names = rw (single, flag) at e in
    absurd (true≢false (sym (ap is_some there)))
named_flag name word rest names (Some text) single flag w = elim (with_option_first name word rest names text w) [
  | inl f ↦ (text, refl, f)
  | inr f ↦ absurd (true≢false (sym flag ∙ f.plain))
]

-- words whose option comes first
pub option_named : (name : Text) (option rest names : List Text) (text : Text) → SetsOption name option text
    → file_names rest ≡ Some names → NamesWithOption name (option ++ rest) names text
option_named name option rest names text sets named =
    record {
      before = [];
      option = option;
      after = rest;
      others = names;
      words_are = refl;
      before_are =
          refl;
      option_is = sets;
      after_are = named;
      files_are = refl;
    }

-- ---- words set an option to one text alone

abbrev value_of : Option (Text × Option Text) → Option Text
value_of None = None
value_of (Some p) = p.1

abbrev read_value : Text → Option Text
read_value word = value_of (long_of word)

same_text : (name word : Text) (rest names files : List Text) (text other : Text) → IsName name
    → OptionFirst name word rest names text → OptionFirst name word rest files other → text ≡ other
same_text name word rest names files text other is f g = elim f.words_are [
  | inl two ↦ elim g.words_are [
    | inl also ↦ ap first_word (sym two.1 ∙ also.1)
    | inr one ↦
        let differ : None ≡ Some other = sym (ap value_of is.alone) ∙ ap read_value (sym two.0 ∙ one.0)
        ∙ ap value_of (is.with_value other) in
        absurd (true≢false (sym (ap is_some differ)))
  ]
  | inr one ↦ elim g.words_are [
    | inl two ↦
        let differ : None ≡ Some text = sym (ap value_of is.alone) ∙ ap read_value (sym two.0 ∙ one.0)
        ∙ ap value_of (is.with_value text) in
        absurd (true≢false (sym (ap is_some differ)))
    | inr also ↦
        let same : Some text ≡ Some other = sym (ap value_of (is.with_value text)) ∙ ap read_value (sym one.0 ∙ also.0)
        ∙ ap value_of (is.with_value other) in
        ap (λ (o : Option Text). unwrap_or o text) same
  ]
]

pub option_alone : (name : Text) (rest names files : List Text) (o p : Option Text) → IsName name
    → NamesWith name rest names o → NamesWith name rest files p → o ≡ p
option_alone name [] names files o p is a b = (nothing_named name names o a).1 ∙ sym (nothing_named name files p b).1
option_alone name (word ∷ rest) names files o p is a b = elim (bool_cases (is_double_hyphen word)) [
  | inl double ↦ (named_double name word rest names o is double a).1
      ∙ sym (named_double name word rest files p is double b).1
  | inr single ↦ elim (bool_cases (is_flag word)) [
    | inl flag ↦
        let f = named_flag name word rest names o single flag a in
        let g = named_flag name word rest files p single flag b in
        f.1 ∙ ap Some (same_text name word rest names files f.0 g.0 is f.2 g.2) ∙ sym g.1
    | inr plain ↦
        let one = named_file name word rest names o single plain a in
        let two = named_file name word rest files p single plain b in
        option_alone name rest one.0 two.0 o p is one.1 two.1
  ]
]
