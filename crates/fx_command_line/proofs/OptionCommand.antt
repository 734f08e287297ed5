-- A command that takes files, and at most one option, with a text: its arguments, and how they are found.
use Rattle.std.proofs.Common.{◌≡◌, ◌∙◌, ◌⊎◌, ◌≤◌, ◌==◌, ◌+◌, ℕ, suc, Bool, cond, true, false, refl, sym, ap, subst, arith, List, [], ◌∷◌, ◌++◌, length, length-append, Some, None, inl, inr, true≢false}
use Rattle.std.specs.Prelude.{⊤, nat_le}
use Rattle.std.specs.Str.{bytes_eq}
use Rattle.std.proofs.lemmas.Bool.{eq-eqb}
use Rattle.std.proofs.lemmas.Bool.Decides.{nat_tests}
use Rattle.std.proofs.lemmas.Slice.Eq.{bytes_eq-Decides}
use Rattle.clap.specs.Kinds.{values_kinds}
use Rattle.clap.specs.Simple.{Shape, filled, new_rule, new_shape, with_index}
use Rattle.clap.specs.Values.{reading_of}
use Rattle.clap.specs.Walk.{Rule, Text, arg_by_id, arg_by_index, arg_by_long, arg_by_short}
use Rattle.clap.specs.declared.builder.value_parser.Reading.TheVariants.{AsWritten}
use Rattle.clap.specs.declared.builder.value_parser.ValueParser.{ValueParser}
use Rattle.clap.specs.declared.builder.value_parser.ValueParser.TheVariants as parsers
use Rattle.fx_command_line.proofs.SingleWords.{bool_cases, help}
use Rattle.fx_command_line.proofs.OptionNames.{IsName}

-- ---- the command

-- its name, the names of its files, of which so many must be there, and its option, if it has one: what reads its text,
-- and the text that stands where it
-- is left out
pub record Taking : Type 0 where
  pub command : Text
  pub ids : List Text
  pub fewest : ℕ
  pub has_option : Bool
  pub option : Text
  pub parser : ValueParser
  pub default : List Text

-- the files of the first so many positions must be there
abbrev pub file_argument : ℕ → ℕ → Text → Rule
file_argument fewest position id = with_index position
    (filled (record (new_rule id) { required = nat_le position fewest }))

abbrev pub file_arguments : ℕ → ℕ → List Text → List Rule
file_arguments fewest position [] = []
file_arguments fewest position (id ∷ rest) = file_argument fewest position id
    ∷ file_arguments fewest (position + 1) rest

abbrev pub option_argument : Taking → Rule
option_argument c = record (filled (record (new_rule c.option)
    { long = Some c.option; value_names = 1; parser = Some c.parser })) { defaults = c.default }

abbrev pub others : Taking → List Rule
others c = cond c.has_option (option_argument c ∷ help ∷ []) (help ∷ [])

abbrev pub arguments : Taking → List Rule
arguments c = file_arguments c.fewest 1 c.ids ++ others c

abbrev pub taking : Taking → Shape
taking c = record (new_shape c.command) { rules = arguments c; disable_help_subcommand = true; is_built = true }

-- as many files as it takes
abbrev pub IsCount : Taking → ℕ → Type 0
IsCount c count = (c.fewest ≤ count) × (count ≤ length c.ids)

-- ---- names that differ

abbrev pub Differs : Text → List Text → Type 0
Differs x [] = ⊤
Differs x (y ∷ ys) = (bytes_eq x y ≡ false) × Differs x ys

abbrev pub AllDiffer : List Text → Text → Type 0
AllDiffer [] y = ⊤
AllDiffer (x ∷ xs) y = (bytes_eq x y ≡ false) × AllDiffer xs y

abbrev pub AreApart : List Text → Type 0
AreApart [] = ⊤
AreApart (x ∷ xs) = Differs x xs × AreApart xs

-- what such a command has to be
pub record IsTaking (c : Taking) : Type 0 where
  pub few : length c.ids ≤ 1000
  pub fits : c.fewest ≤ length c.ids
  pub apart : AreApart (c.option ∷ c.ids)
  pub name : c.has_option ≡ true → IsName c.option
  pub reading : reading_of c.parser ≡ AsWritten
  pub default_fine : values_kinds false c.parser c.default ≡ []
  pub no_default : c.has_option ≡ false → c.default ≡ []

-- a command of files alone, of which so many must be there
abbrev pub some_files : Text → ℕ → List Text → Taking
some_files command fewest ids = record {
  command = command;
  ids = ids;
  fewest = fewest;
  has_option = false;
  option = [];
  parser = parsers.String;
  default = [];
}

abbrev pub files_alone : Text → List Text → Taking
files_alone command ids = some_files command (length ids) ids

pub takes_some_files : (command : Text) (fewest : ℕ) (ids : List Text) → length ids ≤ 1000 → fewest ≤ length ids
    → AreApart ([] ∷ ids) → IsTaking (some_files command fewest ids)
takes_some_files command fewest ids few fits apart = record {
  few = few;
  fits = fits;
  apart = apart;
  name = λ has. absurd (true≢false (sym has));
  reading = refl;
  default_fine = refl;
  no_default = λ _. refl;
}

pub takes_files_alone : (command : Text) (ids : List Text) → length ids ≤ 1000 → AreApart ([] ∷ ids)
    → IsTaking (files_alone command ids)
takes_files_alone command ids few apart = takes_some_files command (length ids) ids few (omega arith) apart

pub same_text : (t : Text) → bytes_eq t t ≡ true
same_text t = (bytes_eq-Decides t t).1 refl

pub differ_back : (a b : Text) → bytes_eq a b ≡ false → bytes_eq b a ≡ false
differ_back a b differ = elim (bool_cases (bytes_eq b a)) [
  | inl is ↦ absurd (true≢false (sym ((bytes_eq-Decides a b).1 (sym ((bytes_eq-Decides b a).0 is))) ∙ differ))
  | inr other ↦ other
]

pub all_differ : (x : Text) (ys : List Text) → Differs x ys → AllDiffer ys x
all_differ x [] d = tt
all_differ x (y ∷ ys) d = (differ_back x y d.0, all_differ x ys d.1)

pub differs_at : (x : Text) (done : List Text) (id : Text) (left : List Text) → Differs x (done ++ id ∷ left)
    → bytes_eq x id ≡ false
differs_at x [] id left d = d.0
differs_at x (y ∷ ys) id left d = differs_at x ys id left d.1

pub apart_before : (done : List Text) (id : Text) (left : List Text) → AreApart (done ++ id ∷ left) → AllDiffer done id
apart_before [] id left a = tt
apart_before (d ∷ ds) id left a = (differs_at d ds id left a.0, apart_before ds id left a.1)

pub apart_behind : (done : List Text) (id : Text) (left : List Text) → AreApart (done ++ id ∷ left) → Differs id left
apart_behind [] id left a = a.0
apart_behind (d ∷ ds) id left a = apart_behind ds id left a.1

-- ---- arguments that are found

pub index_at : (f : ℕ) (p q : ℕ) (done : List Text) (id : Text) (left : List Text) (tail : List Rule) → q ≡ p
    + length done
    → arg_by_index (file_arguments f p (done ++ id ∷ left) ++ tail) q ≡ Some (file_argument f q id)
index_at f p q [] id left tail is =
    let same : q ≡ p = omega (arith, is) in
    subst (λ (n : ℕ). arg_by_index (file_arguments f n (id ∷ left) ++ tail) q ≡ Some (file_argument f q id)) same
    (rw (eq-eqb q q refl) refl)
index_at f p q (d ∷ ds) id left tail is =
    let other : (p == q) ≡ false = grind (arith, nat_tests, is) in
    rw other (index_at f (p + 1) q ds id left tail (omega (arith, is)))

pub no_index : (f : ℕ) (p q : ℕ) (ids : List Text) (tail : List Rule) → p + length ids ≤ q
    → arg_by_index (file_arguments f p ids ++ tail) q ≡ arg_by_index tail q
no_index f p q [] tail past = refl
no_index f p q (id ∷ rest) tail past =
    let less : suc p ≤ q = omega (arith, past) in
    let other : (p == q) ≡ false = grind (arith, nat_tests, less) in
    rw other (no_index f (p + 1) q rest tail (omega (arith, past)))

-- an argument at a position is one of the files', or one behind them
some_index : (f : ℕ) (p q : ℕ) (ids : List Text) (tail : List Rule)
    → (arg_by_index (file_arguments f p ids ++ tail) q ≡ arg_by_index tail q)
    ⊎ ((n : ℕ) × (id : Text) × (arg_by_index (file_arguments f p ids ++ tail) q ≡ Some (file_argument f n id)))
some_index f p q [] tail = inl refl
some_index f p q (id ∷ rest) tail = elim (bool_cases (p == q)) [
  | inl is ↦ inr (p, id, rw is refl)
  | inr other ↦ rw other (some_index f (p + 1) q rest tail)
]

pub id_at : (f : ℕ) (p q : ℕ) (done : List Text) (id : Text) (left : List Text) (tail : List Rule) → q ≡ p + length done
    → AllDiffer done id
    → arg_by_id (file_arguments f p (done ++ id ∷ left) ++ tail) id ≡ Some (file_argument f q id)
id_at f p q [] id left tail is differ =
    let same : p ≡ q = omega (arith, is) in
    rw (same_text id) (ap (λ (n : ℕ). Some (file_argument f n id)) same)
id_at f p q (d ∷ ds) id left tail is differ =
    rw differ.0 (id_at f (p + 1) q ds id left tail (omega (arith, is)) differ.1)

pub no_id : (f : ℕ) (p : ℕ) (ids : List Text) (tail : List Rule) (id : Text) → AllDiffer ids id
    → arg_by_id (file_arguments f p ids ++ tail) id ≡ arg_by_id tail id
no_id f p [] tail id differ = refl
no_id f p (d ∷ ds) tail id differ = rw differ.0 (no_id f (p + 1) ds tail id differ.1)

pub no_long : (f : ℕ) (p : ℕ) (ids : List Text) (tail : List Rule) (name : Text)
    → arg_by_long (file_arguments f p ids ++ tail) name ≡ arg_by_long tail name
no_long f p [] tail name = refl
no_long f p (d ∷ ds) tail name = no_long f (p + 1) ds tail name

pub no_short : (f : ℕ) (p : ℕ) (ids : List Text) (tail : List Rule) (x : ℕ)
    → arg_by_short (file_arguments f p ids ++ tail) x ≡ arg_by_short tail x
no_short f p [] tail x = refl
no_short f p (d ∷ ds) tail x = no_short f (p + 1) ds tail x

-- ---- in the command

-- the position of the file behind these
abbrev pub place : List Text → ℕ
place done = suc (length done)

pub apart_files : (c : Taking) (done : List Text) (id : Text) (left : List Text) → IsTaking c → c.ids ≡ done ++ id
    ∷ left → AreApart (done ++ id ∷ left)
apart_files c done id left is ids = subst AreApart ids is.apart.1

pub from_option : (c : Taking) (done : List Text) (id : Text) (left : List Text) → IsTaking c → c.ids ≡ done ++ id
    ∷ left → bytes_eq c.option id ≡ false
from_option c done id left is ids = differs_at c.option done id left (subst (Differs c.option) ids is.apart.0)

pub file_by_index : (c : Taking) (done : List Text) (id : Text) (left : List Text) → c.ids ≡ done ++ id ∷ left
    → arg_by_index (arguments c) (place done) ≡ Some (file_argument c.fewest (place done) id)
file_by_index c done id left ids =
    ap (λ (xs : List Text). arg_by_index (file_arguments c.fewest 1 xs ++ others c) (place done)) ids
    ∙ index_at c.fewest 1 (place done) done id left (others c) (omega arith)

others_index : (c : Taking) (q : ℕ) → arg_by_index (others c) q ≡ None
others_index c q = elim (bool_cases c.has_option) [ inl has ↦ rw has refl | inr none ↦ rw none refl ]

pub stray_index : (c : Taking) (done : List Text) → c.ids ≡ done ++ [] → arg_by_index (arguments c) (place done) ≡ None
stray_index c done ids = no_index c.fewest 1 (place done) c.ids (others c)
    (omega (arith, ap length ids, length-append done [])) ∙ others_index c (place done)

-- an argument at a position is a file's, if there is one
pub file_or_none : (c : Taking) (q : ℕ) → (arg_by_index (arguments c) q ≡ None)
    ⊎ ((n : ℕ) × (id : Text) × (arg_by_index (arguments c) q ≡ Some (file_argument c.fewest n id)))
file_or_none c q = elim (some_index c.fewest 1 q c.ids (others c))
    [ inl none ↦ inl (none ∙ others_index c q) | inr some ↦ inr some ]

pub file_by_id : (c : Taking) (done : List Text) (id : Text) (left : List Text) → IsTaking c → c.ids ≡ done ++ id ∷ left
    → arg_by_id (arguments c) id ≡ Some (file_argument c.fewest (place done) id)
file_by_id c done id left is ids =
    ap (λ (xs : List Text). arg_by_id (file_arguments c.fewest 1 xs ++ others c) id) ids
    ∙ id_at c.fewest 1 (place done) done id left (others c) (omega arith)
    (apart_before done id left (apart_files c done id left is ids))

-- a command that has an option
pub record HasOption (c : Taking) : Type 0 where
  pub is : IsTaking c
  pub has : c.has_option ≡ true

pub option_by_id : (c : Taking) → HasOption c → arg_by_id (arguments c) c.option ≡ Some (option_argument c)
option_by_id c o =
    let here : arg_by_id (others c) c.option ≡ Some (option_argument c) = rw (o.has, same_text c.option) refl in
    no_id c.fewest 1 c.ids (others c) c.option (all_differ c.option c.ids o.is.apart.0) ∙ here

pub option_by_long : (c : Taking) → HasOption c → arg_by_long (arguments c) c.option ≡ Some (option_argument c)
option_by_long c o =
    let here : arg_by_long (others c) c.option ≡ Some (option_argument c) = rw (o.has, same_text c.option) refl in
    no_long c.fewest 1 c.ids (others c) c.option ∙ here
