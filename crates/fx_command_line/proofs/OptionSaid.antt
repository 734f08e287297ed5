-- What words behind a command with an option have said so far, and how the end of the words is judged then.
use Rattle.std.proofs.Common.{◌≡◌, ◌≤◌, ◌<◌, ◌∙◌, ◌&&◌, arith, ◌||◌, ◌+◌, ℕ, Bool, cond, true, false, refl, sym, ap, ap₂, subst, List, [], ◌∷◌, ◌++◌, length, append-nil, append_assoc, Option, Some, None, inl, inr, suc, true≢false}
use Rattle.std.specs.Prelude.{⊤, nat_le, not}
use Rattle.std.specs.List.{fold, list_any}
use Rattle.std.specs.Option.{option_map_or}
use Rattle.std.proofs.lemmas.Bool.Decides.{nat_tests}
use Rattle.std.specs.Str.{bytes_eq}
use Rattle.clap.specs.Facts.{explicit_source}
use Rattle.clap.specs.Faults.{defaults_fault, given_default_fault, settle_fault, use_fault}
use Rattle.clap.specs.Kinds.{Kinds, check_kinds, or_else, values_kinds}
use Rattle.clap.specs.Takes.{is_given}
use Rattle.clap.specs.ValueTests.{accepts}
use Rattle.clap.specs.Values.{reading_of}
use Rattle.clap.specs.Walk.{Row, Rule, Text, Walk, default_rows, finished, has_row, is_empty, settled_rows, used_by_id, with_default}
use Rattle.clap.specs.declared.builder.value_parser.Reading.{Reading}
use Rattle.clap.specs.declared.builder.value_parser.Reading.TheVariants.{AsWritten}
use Rattle.clap.specs.declared.builder.value_parser.ValueParser.TheVariants as parsers
use Rattle.clap.specs.declared.parser.matches.ValueSource.TheVariants.{DefaultValue}
use Rattle.fx_command_line.proofs.WordSteps.{at_end, walk_at}
use Rattle.fx_command_line.proofs.SingleWords.{Fails, bool_cases, help, held}
use Rattle.fx_command_line.proofs.OptionCommand.{Differs, IsTaking, Taking, apart_behind, apart_files, arguments, file_argument, file_arguments, file_by_id, from_option, differ_back, option_argument, option_by_id, others, place, taking}
use Rattle.fx_command_line.proofs.OptionRows.{Has, HasAll, HasText, HoldsFirst, Lacks, LacksAll, all_still, and_false, cond_same, finds_row, first_of_all, found_before, found_behind, has_new, held_row, lacks_row, lacks_still, new_row, none_still, one_more, or_true, row_at, text_row, text_still, used_row}

-- ---- what words have said

-- a text that the option takes, if there is one
abbrev pub IsFine : Taking → Option Text → Type 0
IsFine c None = ⊤
IsFine c (Some text) = (c.has_option ≡ true) × (accepts false c.parser text ≡ true)

-- The files of these names and the option's text, if it is set, are held: as rows, or as what waits to be one.
pub record Said (c : Taking) (done left files : List Text) (o : Option Text) : Type 0 where
  pub rows : List Row
  pub pending : Option (Text × List Text)
  pub kept : List Row
  pub settles : settled_rows (arguments c) pending rows ≡ kept
  pub fine : settle_fault (arguments c) false (held rows pending) ≡ []
  pub ids : c.ids ≡ done ++ left
  pub has : HasAll kept done files
  pub lacks : LacksAll kept left
  pub option_is : HasText kept c.option o
  pub accepted : IsFine c o

-- where the walk stands then
abbrev pub walk_of : {c : Taking} {done left files : List Text} {o : Option Text} → Said c done left files o → Bool
    → Walk
walk_of {c} {done} {left} {files} {o} said trails = walk_at said.rows said.pending (place done) trails

pub as_many : (rows : List Row) (ids files : List Text) → HasAll rows ids files → length ids ≡ length files
as_many rows [] [] has = refl
as_many rows (id ∷ ids) (file ∷ files) has = ap suc (as_many rows ids files has.1)
as_many rows [] (file ∷ files) has = absurd has
as_many rows (id ∷ ids) [] has = absurd has

-- before the first word
unfoldable pub nothing_said : (c : Taking) → LacksAll [] c.ids → Said c [] c.ids [] None
nothing_said c lacks = record {
  rows = [];
  pending = None;
  kept = [];
  settles = refl;
  fine = refl;
  ids = refl;
  has = tt;
  lacks = lacks;
  option_is = refl;
  accepted = tt;
}

pub none_of : (ids : List Text) → LacksAll [] ids
none_of [] = tt
none_of (id ∷ ids) = (refl, none_of ids)

-- ---- one thing more

pub file_use : (fewest position : ℕ) (id word : Text) (rows : List Row) → Lacks rows id
    → use_fault false (file_argument fewest position id) (word ∷ []) rows ≡ []
file_use fewest position id word rows lacks = rw (lacks_row rows id lacks) refl

-- one file more, which waits
unfoldable pub file_said : (c : Taking) (done : List Text) (id : Text) (left files : List Text) (o : Option Text)
    (word : Text) → IsTaking c → Said c done (id ∷ left) files o
    → Said c (done ++ id ∷ []) left (files ++ word ∷ []) o
file_said c done id left files o word is said =
    let found = file_by_id c done id left is said.ids in
    record {
      rows = said.kept;
      pending = Some (id, word ∷ []);
      kept = said.kept ++ held_row id word ∷ [];
      settles = ap (λ (a : Option Rule). used_by_id a (word ∷ []) said.kept) found
          ∙ used_row id AsWritten word said.kept refl said.lacks.0;
      fine = ap (λ (a : Option Rule). option_map_or (λ r. use_fault false r (word ∷ []) said.kept) a []) found
          ∙ file_use c.fewest (place done) id word said.kept said.lacks.0;
      ids = said.ids ∙ sym (append_assoc done (id ∷ []) left);
      has = one_more (said.kept ++ held_row id word ∷ []) done files id word
          (all_still said.kept (held_row id word ∷ []) done files said.has) (has_new id word said.kept said.lacks.0);
      lacks = none_still said.kept (held_row id word) left
          (apart_behind done id left (apart_files c done id left is said.ids)) said.lacks.1;
      option_is = text_still said.kept (held_row id word) c.option o
          (differ_back c.option id (from_option c done id left is said.ids)) said.option_is;
      accepted = said.accepted;
    }

pub option_use : (c : Taking) (text : Text) (rows : List Row) → Lacks rows c.option → accepts false c.parser text ≡ true
    → use_fault false (option_argument c) (text ∷ []) rows ≡ []
option_use c text rows lacks fine = rw (lacks_row rows c.option lacks, fine) refl

differs_left : (x : Text) (done left : List Text) → Differs x (done ++ left) → Differs x left
differs_left x [] left d = d
differs_left x (y ∷ ys) left d = differs_left x ys left d.1

pub option_apart : (c : Taking) (done left : List Text) → IsTaking c → c.ids ≡ done ++ left → Differs c.option left
option_apart c done left is ids = differs_left c.option done left (subst (Differs c.option) ids is.apart.0)

-- the option, which waits
unfoldable pub option_said : (c : Taking) (done left files : List Text) (text : Text) → IsTaking c
    → IsFine c (Some text) → Said c done left files None → Said c done left files (Some text)
option_said c done left files text is fine said =
    let found = option_by_id c (record { is = is; has = fine.0 }) in
    record {
      rows = said.kept;
      pending = Some (c.option, text ∷ []);
      kept = said.kept ++ held_row c.option text ∷ [];
      settles = ap (λ (a : Option Rule). used_by_id a (text ∷ []) said.kept) found
          ∙ used_row c.option (reading_of c.parser) text said.kept is.reading said.option_is;
      fine = ap (λ (a : Option Rule). option_map_or (λ r. use_fault false r (text ∷ []) said.kept) a []) found
          ∙ option_use c text said.kept said.option_is fine.1;
      ids = said.ids;
      has = all_still said.kept (held_row c.option text ∷ []) done files said.has;
      lacks = none_still said.kept (held_row c.option text) left (option_apart c done left is said.ids) said.lacks;
      option_is = has_new c.option text said.kept said.option_is;
      accepted = fine;
    }

-- the option with its text behind `=`, which is a row at once
unfoldable pub option_set : (c : Taking) (done left files : List Text) (text : Text) → IsTaking c → IsFine c (Some text)
    → Said c done left files None → Said c done left files (Some text)
option_set c done left files text is fine said = record {
  rows = said.kept ++ held_row c.option text ∷ [];
  pending = None;
  kept = said.kept ++ held_row c.option text ∷ [];
  settles = refl;
  fine = refl;
  ids = said.ids;
  has = all_still said.kept (held_row c.option text ∷ []) done files said.has;
  lacks = none_still said.kept (held_row c.option text) left (option_apart c done left is said.ids) said.lacks;
  option_is = has_new c.option text said.kept said.option_is;
  accepted = fine;
}

-- ---- the end of the words: texts that stand where none was set

-- the row of an option that was left out, if it has a text then
abbrev pub default_row : Text → List Text → List Row
default_row id [] = []
default_row id (text ∷ texts) = text_row id DefaultValue (text ∷ texts) ∷ []

-- what joins the rows at the end
abbrev pub ending : Taking → Option Text → List Row
ending c (Some text) = []
ending c None = default_row c.option c.default

by_default : (id : Text) (how : Reading) (texts : List Text) (rows : List Row) → how ≡ AsWritten → Lacks rows id
    → default_rows id how texts rows ≡ rows ++ default_row id texts
by_default id how [] rows is lacks = sym (append-nil rows)
by_default id how (text ∷ texts) rows is lacks = new_row id how DefaultValue (text ∷ texts) rows is lacks

option_ending : (c : Taking) (o : Option Text) (rows : List Row) → IsTaking c → HasText rows c.option o
    → with_default rows (option_argument c) ≡ rows ++ ending c o
option_ending c None rows is lacks = rw (lacks_row rows c.option lacks)
    (by_default c.option (reading_of c.parser) c.default rows is.reading lacks)
option_ending c (Some text) rows is has =
    rw (finds_row rows c.option (held_row c.option text) has) (sym (append-nil rows))

-- files have no text of their own then
files_ending : (f p : ℕ) (ids : List Text) (tail : List Rule) (rows : List Row)
    → fold with_default rows (file_arguments f p ids ++ tail) ≡ fold with_default rows tail
files_ending f p [] tail rows = refl
files_ending f p (id ∷ ids) tail rows =
    ap (λ (rs : List Row). fold with_default rs (file_arguments f (p + 1) ids ++ tail))
    (cond_same (has_row id rows) rows) ∙ files_ending f (p + 1) ids tail rows

-- nor has help
others_ending : (c : Taking) (o : Option Text) (rows : List Row) → IsTaking c → IsFine c o → HasText rows c.option o
    → fold with_default rows (others c) ≡ rows ++ ending c o
others_ending c o rows is fine has = elim (bool_cases c.has_option) [
  | inl some ↦ rw some (cond_same (has_row help.id (with_default rows (option_argument c)))
      (with_default rows (option_argument c)) ∙ option_ending c o rows is has)
  | inr none ↦ rw none (cond_same (has_row help.id rows) rows ∙ sym (nothing o none fine))
]
  where
    nothing : (p : Option Text) → c.has_option ≡ false → IsFine c p → rows ++ ending c p ≡ rows
    nothing None none fine = ap (λ (texts : List Text). rows ++ default_row c.option texts) (is.no_default none)
        ∙ append-nil rows
    nothing (Some text) none fine = absurd (true≢false (sym fine.0 ∙ none))

all_ending : (c : Taking) (o : Option Text) (rows : List Row) → IsTaking c → IsFine c o → HasText rows c.option o
    → fold with_default rows (arguments c) ≡ rows ++ ending c o
all_ending c o rows is fine has = files_ending c.fewest 1 c.ids (others c) rows ∙ others_ending c o rows is fine has

no_faults : (f p : ℕ) (ids : List Text) (tail : List Rule) (rows : List Row)
    → defaults_fault rows (file_arguments f p ids ++ tail) ≡ defaults_fault rows tail
unfolding defaults_fault
no_faults f p [] tail rows = refl
no_faults f p (id ∷ ids) tail rows =
    ap₂ (λ (b : Bool) (rs : List Row). or_else (cond b [] (values_kinds false parsers.String []))
    (defaults_fault rs (file_arguments f (p + 1) ids ++ tail)))
    (or_true (has_row id rows)) (cond_same (has_row id rows) rows)
    ∙ no_faults f (p + 1) ids tail rows

option_default : (c : Taking) (b : Bool) → IsTaking c
    → cond (b || is_empty c.default) [] (values_kinds false c.parser c.default) ≡ []
option_default c b is = ap (λ (k : Kinds). cond (b || is_empty c.default) [] k) is.default_fine
    ∙ cond_same (b || is_empty c.default) []

help_default : (rows : List Row) → defaults_fault rows (help ∷ []) ≡ []
unfolding defaults_fault
help_default rows = ap (λ (b : Bool). or_else (cond b [] (given_default_fault help [])) [])
    (or_true (has_row help.id rows))

option_and_help_default : (c : Taking) (rows : List Row) → IsTaking c
    → defaults_fault rows (option_argument c ∷ help ∷ []) ≡ []
unfolding defaults_fault
option_and_help_default c rows is =
    ap (λ (k : Kinds). or_else k (defaults_fault (with_default rows (option_argument c)) (help ∷ [])))
    (option_default c (has_row c.option rows) is)
    ∙ help_default (with_default rows (option_argument c))

others_default : (c : Taking) (rows : List Row) → IsTaking c → defaults_fault rows (others c) ≡ []
others_default c rows is = elim (bool_cases c.has_option) [
  | inl some ↦ rw some (option_and_help_default c rows is)
  | inr none ↦ rw none (help_default rows)
]

-- ---- what is wanted

abbrev is_wanted : List Row → Rule → Bool
is_wanted rows a = a.required && not (is_given a.id rows)

abbrev lacks_source : Option Row → Bool
lacks_source o = not (option_map_or (λ r. explicit_source r.source) o false)

all_given : (f p : ℕ) (rows : List Row) (ids left files : List Text) (tail : List Rule) → HasAll rows ids files
    → list_any (is_wanted rows) (file_arguments f p (ids ++ left) ++ tail)
    ≡ list_any (is_wanted rows) (file_arguments f (p + length ids) left ++ tail)
all_given f p rows [] left [] tail has = let same : p ≡ p + 0 = omega arith in
    ap (λ (n : ℕ). list_any (is_wanted rows) (file_arguments f n left ++ tail)) same
all_given f p rows (id ∷ ids) left (file ∷ files) tail has =
    let same : (p + 1) + length ids ≡ p + suc (length ids) = omega arith in
    ap (λ (o : Option Row). (nat_le p f && lacks_source o) || list_any (is_wanted rows)
    (file_arguments f (p + 1) (ids ++ left) ++ tail)) has.0
    ∙ ap (λ (b : Bool). b || list_any (is_wanted rows) (file_arguments f (p + 1) (ids ++ left) ++ tail))
    (and_false (nat_le p f))
    ∙ all_given f (p + 1) rows ids left files tail has.1
    ∙ ap (λ (n : ℕ). list_any (is_wanted rows) (file_arguments f n left ++ tail)) same
all_given f p rows [] left (file ∷ files) tail has = absurd has
all_given f p rows (id ∷ ids) left [] tail has = absurd has

-- a file that must be there is wanted
one_wanted : (f p : ℕ) (rows : List Row) (id : Text) (left : List Text) (tail : List Rule) → p ≤ f → Lacks rows id
    → list_any (is_wanted rows) (file_arguments f p (id ∷ left) ++ tail) ≡ true
one_wanted f p rows id left tail within lacks =
    let is : nat_le p f ≡ true = grind (arith, nat_tests, within) in
    ap (λ (o : Option Row). (nat_le p f && lacks_source o) || list_any (is_wanted rows)
    (file_arguments f (p + 1) left ++ tail)) lacks
    ∙ ap (λ (b : Bool). (b && true) || list_any (is_wanted rows) (file_arguments f (p + 1) left ++ tail)) is

-- the files behind those that must be there aren't
none_wanted : (f p : ℕ) (rows : List Row) (left : List Text) (tail : List Rule) → suc f ≤ p
    → list_any (is_wanted rows) (file_arguments f p left ++ tail) ≡ list_any (is_wanted rows) tail
none_wanted f p rows [] tail past = refl
none_wanted f p rows (id ∷ left) tail past =
    let other : nat_le p f ≡ false = grind (arith, nat_tests, past) in
    ap (λ (b : Bool). (b && not (is_given id rows)) || list_any (is_wanted rows)
    (file_arguments f (p + 1) left ++ tail)) other ∙ none_wanted f (p + 1) rows left tail (omega (arith, past))

others_given : (c : Taking) (rows : List Row) → list_any (is_wanted rows) (others c) ≡ false
others_given c rows = elim (bool_cases c.has_option) [ inl some ↦ rw some refl | inr none ↦ rw none refl ]

-- ---- the last checks

abbrev last_check : Taking → List Row → Kinds
last_check c rows = check_kinds false false (list_any (is_wanted rows) (arguments c))

pub checks_of : (c : Taking) (o : Option Text) (rows kept : List Row) (pending : Option (Text × List Text))
    (position : ℕ) (trails : Bool) → IsTaking c → IsFine c o
    → settled_rows (arguments c) pending rows ≡ kept → settle_fault (arguments c) false (held rows pending) ≡ []
    → HasText kept c.option o
    → at_end (taking c) [] (walk_at rows pending position trails) ≡ last_check c (kept ++ ending c o)
checks_of c o rows kept pending position trails is taken settles fine has =
    ap (λ (k : Kinds). or_else k (or_else (defaults_fault (settled_rows (arguments c) pending rows) (arguments c))
    (last_check c (fold with_default (settled_rows (arguments c) pending rows) (arguments c))))) fine
    ∙ ap (λ (rs : List Row). or_else (defaults_fault rs (arguments c))
    (last_check c (fold with_default rs (arguments c)))) settles
    ∙ ap (λ (k : Kinds). or_else k (last_check c (fold with_default kept (arguments c))))
    (no_faults c.fewest 1 c.ids (others c) kept ∙ others_default c kept is)
    ∙ ap (last_check c) (all_ending c o kept is taken has)

-- the rows at the end
pub final_rows : (c : Taking) (o : Option Text) (rows kept : List Row) (pending : Option (Text × List Text))
    → IsTaking c → IsFine c o → settled_rows (arguments c) pending rows ≡ kept → HasText kept c.option o
    → finished (arguments c) (held rows pending) ≡ kept ++ ending c o
final_rows c o rows kept pending is fine settles has =
    ap (λ (rs : List Row). fold with_default rs (arguments c)) settles ∙ all_ending c o kept is fine has

lacks_default : (id other : Text) (texts : List Text) (rows : List Row) → bytes_eq other id ≡ false → Lacks rows id
    → Lacks (rows ++ default_row other texts) id
lacks_default id other [] rows differs lacks = ap (row_at id) (append-nil rows) ∙ lacks
lacks_default id other (text ∷ texts) rows differs lacks =
    lacks_still id rows (text_row other DefaultValue (text ∷ texts)) differs lacks

lacks_ending : (c : Taking) (o : Option Text) (id : Text) (rows : List Row) → bytes_eq c.option id ≡ false
    → Lacks rows id → Lacks (rows ++ ending c o) id
lacks_ending c None id rows differs lacks = lacks_default id c.option c.default rows differs lacks
lacks_ending c (Some text) id rows differs lacks = ap (row_at id) (append-nil rows) ∙ lacks

lacks_all_ending : (c : Taking) (o : Option Text) (ids : List Text) (rows : List Row) → Differs c.option ids
    → LacksAll rows ids → LacksAll (rows ++ ending c o) ids
lacks_all_ending c o [] rows differs lacks = tt
lacks_all_ending c o (id ∷ ids) rows differs lacks =
    (lacks_ending c o id rows differs.0 lacks.0, lacks_all_ending c o ids rows differs.1 lacks.1)

-- what is wanted at the end, behind the files that are there
wanted_of : (c : Taking) (done left files : List Text) (o : Option Text) → (said : Said c done left files o)
    → list_any (is_wanted (said.kept ++ ending c o)) (arguments c)
    ≡ list_any (is_wanted (said.kept ++ ending c o)) (file_arguments c.fewest (1 + length done) left ++ others c)
wanted_of c done left files o said =
    ap (λ (ids : List Text). list_any (is_wanted (said.kept ++ ending c o)) (file_arguments c.fewest 1 ids ++ others c))
    said.ids
    ∙ all_given c.fewest 1 (said.kept ++ ending c o) done left files (others c)
    (all_still said.kept (ending c o) done files said.has)

-- too few files
pub too_few : (c : Taking) (done : List Text) (id : Text) (left files : List Text) (o : Option Text) (trails : Bool)
    → IsTaking c → length done < c.fewest → (said : Said c done (id ∷ left) files o)
    → Fails (at_end (taking c) [] (walk_of said trails))
too_few c done id left files o trails is few said =
    let rows = said.kept ++ ending c o in
    let lacks : Lacks rows id = lacks_ending c o id said.kept (from_option c done id left is said.ids) said.lacks.0 in
    let wanted : list_any (is_wanted rows) (arguments c) ≡ true =
    wanted_of c done (id ∷ left) files o said
    ∙ one_wanted c.fewest (1 + length done) rows id left (others c) (omega (arith, few)) lacks in
    let ends = checks_of c o said.rows said.kept said.pending (place done) trails is said.accepted said.settles
    said.fine said.option_is ∙ ap (check_kinds false false) wanted in
    subst Fails (sym ends) tt

-- the files that are there
pub first_there : (c : Taking) (done left files : List Text) (o : Option Text) → IsTaking c
    → (said : Said c done left files o) → HoldsFirst (said.kept ++ ending c o) c.ids files
first_there c done left files o is said =
    subst (λ (ids : List Text). HoldsFirst (said.kept ++ ending c o) ids files) (sym said.ids)
    (first_of_all (said.kept ++ ending c o) done left files (all_still said.kept (ending c o) done files said.has)
    (lacks_all_ending c o left said.kept (option_apart c done left is said.ids) said.lacks))

-- enough files
pub enough : (c : Taking) (done left files : List Text) (o : Option Text) (trails : Bool) → IsTaking c → c.fewest
    ≤ length done → (said : Said c done left files o)
    → at_end (taking c) [] (walk_of said trails) ≡ []
enough c done left files o trails is many said =
    checks_of c o said.rows said.kept said.pending (place done) trails is said.accepted said.settles said.fine
    said.option_is
    ∙ ap (check_kinds false false)
    (wanted_of c done left files o said ∙ none_wanted c.fewest (1 + length done) (said.kept ++ ending c o) left
    (others c) (omega (arith, many)) ∙ others_given c (said.kept ++ ending c o))

-- what the rows hold of the option at the end: its text, or the one that stands where it is left out
abbrev pub HoldsAtEnd : Taking → Option Text → List Row → Type 0
HoldsAtEnd c (Some text) rows = Has rows c.option text
HoldsAtEnd c None rows = row_at c.option rows ≡ row_at c.option (default_row c.option c.default)

pub option_there : (c : Taking) (o : Option Text) (kept : List Row) → HasText kept c.option o
    → HoldsAtEnd c o (kept ++ ending c o)
option_there c (Some text) kept has = found_before c.option kept [] (held_row c.option text) has
option_there c None kept lacks = found_behind c.option kept (default_row c.option c.default) lacks
