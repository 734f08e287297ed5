-- What rows of matches hold, row by row.
use Rattle.std.proofs.Common.{◌≡◌, ◌≤◌, ◌∙◌, ◌&&◌, ◌||◌, Bool, cond, true, false, refl, sym, ap, arith, length, List, [], ◌∷◌, ◌++◌, append-nil, Option, Some, None, inl, inr, true≢false, is_some}
use Rattle.std.specs.Prelude.{⊤, find, option_and_then, slice_get}
use Rattle.std.specs.Str.{bytes_eq}
use Rattle.clap.specs.Walk.{Row, Text, at_row, first_of, has_row, more_values, one_of, row_text, with_values, without}
use Rattle.clap.specs.declared.builder.value_parser.Reading.{Reading}
use Rattle.clap.specs.declared.builder.value_parser.Reading.TheVariants.{AsWritten}
use Rattle.clap.specs.declared.parser.matches.ValueSource.{ValueSource}
use Rattle.clap.specs.declared.parser.matches.ValueSource.TheVariants.{CommandLine}
use Rattle.fx_command_line.proofs.SingleWords.{bool_cases}
use Rattle.fx_command_line.proofs.OptionCommand.{Differs, same_text}

-- a row of texts that are read as they stand
abbrev pub text_row : Text → ValueSource → List Text → Row
text_row id source values = record {
  id = id;
  values = values;
  count = None;
  source = Some source;
  reading = AsWritten;
}

-- a row of a word
abbrev pub held_row : Text → Text → Row
held_row id text = text_row id CommandLine (text ∷ [])

abbrev pub row_at : Text → List Row → Option Row
row_at id rows = find (λ r. bytes_eq r.id id) rows

abbrev pub Has : List Row → Text → Text → Type 0
Has rows id text = row_at id rows ≡ Some (held_row id text)

abbrev pub Lacks : List Row → Text → Type 0
Lacks rows id = row_at id rows ≡ None

abbrev pub HasAll : List Row → List Text → List Text → Type 0
HasAll rows [] [] = ⊤
HasAll rows (id ∷ ids) (file ∷ files) = Has rows id file × HasAll rows ids files
HasAll rows _ _ = ⊥

abbrev pub LacksAll : List Row → List Text → Type 0
LacksAll rows [] = ⊤
LacksAll rows (id ∷ ids) = Lacks rows id × LacksAll rows ids

-- the first of these names have these files, and the others none
abbrev pub HoldsFirst : List Row → List Text → List Text → Type 0
HoldsFirst rows ids [] = LacksAll rows ids
HoldsFirst rows (id ∷ ids) (file ∷ files) = Has rows id file × HoldsFirst rows ids files
HoldsFirst rows [] (file ∷ files) = ⊥

-- all of them, where there are as many files
pub all_first : (rows : List Row) (ids files : List Text) → HoldsFirst rows ids files → length ids ≤ length files
    → HasAll rows ids files
all_first rows [] [] first many = tt
all_first rows (id ∷ ids) [] first many = absurd (omega (arith, many))
all_first rows (id ∷ ids) (file ∷ files) first many = (first.0, all_first rows ids files first.1 (omega (arith, many)))
all_first rows [] (file ∷ files) first many = absurd first

pub first_of_all : (rows : List Row) (done left files : List Text) → HasAll rows done files → LacksAll rows left
    → HoldsFirst rows (done ++ left) files
first_of_all rows [] left [] has lacks = lacks
first_of_all rows (id ∷ ids) left (file ∷ files) has lacks = (has.0, first_of_all rows ids left files has.1 lacks)
first_of_all rows [] left (file ∷ files) has lacks = absurd has
first_of_all rows (id ∷ ids) left [] has lacks = absurd has

-- a row that is held where there is a text, and lacked where there is none
abbrev pub HasText : List Row → Text → Option Text → Type 0
HasText rows id None = Lacks rows id
HasText rows id (Some text) = Has rows id text

-- ---- rows that are lacked

none_there : {X : Type 0} (x : X) → Some x ≡ None → ⊥
none_there x e = true≢false (ap is_some e)

pub lacks_row : (rows : List Row) (id : Text) → Lacks rows id → has_row id rows ≡ false
lacks_row [] id lacks = refl
lacks_row (r ∷ rs) id lacks = elim (bool_cases (bytes_eq r.id id)) [
  | inl is ↦ let none : Some r ≡ None = rw is at lacks in absurd (none_there r none)
  | inr other ↦ rw other (lacks_row rs id (rw other at lacks))
]

pub finds_row : (rows : List Row) (id : Text) (row : Row) → row_at id rows ≡ Some row → has_row id rows ≡ true
finds_row [] id row has = absurd (none_there row (sym has))
finds_row (r ∷ rs) id row has = elim (bool_cases (bytes_eq r.id id)) [
  | inl is ↦ rw is refl
  | inr other ↦ rw other (finds_row rs id row (rw other at has))
]

at_lacking : (id : Text) (change : Row → List Row) (missing rows : List Row) → Lacks rows id
    → at_row id change missing rows ≡ rows ++ missing
at_lacking id change missing [] lacks = refl
at_lacking id change missing (r ∷ rs) lacks = elim (bool_cases (bytes_eq r.id id)) [
  | inl is ↦ let none : Some r ≡ None = rw is at lacks in absurd (none_there r none)
  | inr other ↦ rw other (ap (λ (xs : List Row). r ∷ xs) (at_lacking id change missing rs (rw other at lacks)))
]

pub new_row : (id : Text) (how : Reading) (source : ValueSource) (values : List Text) (rows : List Row) → how
    ≡ AsWritten → Lacks rows id
    → with_values id how source values rows ≡ rows ++ text_row id source values ∷ []
new_row id how source values rows is lacks =
    ap (λ (h : Reading). with_values id h source values rows) is
    ∙ at_lacking id (more_values source values) (text_row id source values ∷ []) rows lacks

-- an argument that is used for the first time
pub used_row : (id : Text) (how : Reading) (text : Text) (rows : List Row) → how ≡ AsWritten → Lacks rows id
    → with_values id how CommandLine (text ∷ []) (without id rows) ≡ rows ++ held_row id text ∷ []
used_row id how text rows is lacks =
    ap (with_values id how CommandLine (text ∷ [])) (at_lacking id (λ _. []) [] rows lacks ∙ append-nil rows)
    ∙ new_row id how CommandLine (text ∷ []) rows is lacks

-- ---- rows behind others

pub found_before : (id : Text) (rows more : List Row) (row : Row) → row_at id rows ≡ Some row → row_at id (rows ++ more)
    ≡ Some row
found_before id [] more row has = absurd (none_there row (sym has))
found_before id (r ∷ rs) more row has = elim (bool_cases (bytes_eq r.id id)) [
  | inl is ↦ rw is (rw is at has)
  | inr other ↦ rw other (found_before id rs more row (rw other at has))
]

pub found_behind : (id : Text) (rows more : List Row) → Lacks rows id → row_at id (rows ++ more) ≡ row_at id more
found_behind id [] more lacks = refl
found_behind id (r ∷ rs) more lacks = elim (bool_cases (bytes_eq r.id id)) [
  | inl is ↦ let none : Some r ≡ None = rw is at lacks in absurd (none_there r none)
  | inr other ↦ rw other (found_behind id rs more (rw other at lacks))
]

pub has_new : (id text : Text) (rows : List Row) → Lacks rows id → Has (rows ++ held_row id text ∷ []) id text
has_new id text rows lacks =
    let here : row_at id (held_row id text ∷ []) ≡ Some (held_row id text) = rw (same_text id) refl in
    found_behind id rows (held_row id text ∷ []) lacks ∙ here

pub lacks_still : (id : Text) (rows : List Row) (row : Row) → bytes_eq row.id id ≡ false → Lacks rows id
    → Lacks (rows ++ row ∷ []) id
lacks_still id rows row differs lacks =
    let here : row_at id (row ∷ []) ≡ None = rw differs refl in
    found_behind id rows (row ∷ []) lacks ∙ here

pub all_still : (rows more : List Row) (ids files : List Text) → HasAll rows ids files → HasAll (rows ++ more) ids files
all_still rows more [] [] has = tt
all_still rows more (id ∷ ids) (file ∷ files) has =
    (found_before id rows more (held_row id file) has.0, all_still rows more ids files has.1)
all_still rows more [] (file ∷ files) has = absurd has
all_still rows more (id ∷ ids) [] has = absurd has

pub one_more : (rows : List Row) (ids files : List Text) (id file : Text) → HasAll rows ids files → Has rows id file
    → HasAll rows (ids ++ id ∷ []) (files ++ file ∷ [])
one_more rows [] [] id file all has = (has, tt)
one_more rows (x ∷ xs) (f ∷ fs) id file all has = (all.0, one_more rows xs fs id file all.1 has)
one_more rows [] (f ∷ fs) id file all has = absurd all
one_more rows (x ∷ xs) [] id file all has = absurd all

pub none_still : (rows : List Row) (row : Row) (ids : List Text) → Differs row.id ids → LacksAll rows ids
    → LacksAll (rows ++ row ∷ []) ids
none_still rows row [] differs lacks = tt
none_still rows row (id ∷ ids) differs lacks =
    (lacks_still id rows row differs.0 lacks.0, none_still rows row ids differs.1 lacks.1)

pub text_still : (rows : List Row) (row : Row) (id : Text) (o : Option Text) → bytes_eq row.id id ≡ false
    → HasText rows id o → HasText (rows ++ row ∷ []) id o
text_still rows row id None differs lacks = lacks_still id rows row differs lacks
text_still rows row id (Some text) differs has = found_before id rows (row ∷ []) (held_row id text) has

-- ---- what rows give

pub first_held : (rows : List Row) (id text : Text) → Has rows id text → first_of id rows ≡ Some text
first_held rows id text has = ap (λ (o : Option Row). option_and_then (λ r. slice_get r.values 0) o) has

pub one_held : (rows : List Row) (id text : Text) → Has rows id text → one_of id rows ≡ Some text
one_held rows id text has = ap (λ (o : Option Row). option_and_then row_text o) has

-- ---- tests of which one side doesn't matter

pub or_true : (b : Bool) → (b || true) ≡ true
or_true true = refl
or_true false = refl

pub or_false : (b : Bool) → (b || false) ≡ b
or_false true = refl
or_false false = refl

pub and_false : (b : Bool) → (b && false) ≡ false
and_false true = refl
and_false false = refl

pub cond_same : {X : Type 0} (b : Bool) (x : X) → cond b x x ≡ x
cond_same true x = refl
cond_same false x = refl
