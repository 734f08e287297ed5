-- How a file's name and the end of the words are judged behind a command.
use Rattle.std.proofs.Common.{◌≡◌, ◌∙◌, ◌⊎◌, ◌≤◌, ◌<◌, ◌+◌, ◌||◌, Bool, true, false, cond, refl, sym, ap, subst, arith, List, [], ◌∷◌, ◌++◌, length, length-append, append-nil, append_assoc, Option, Some, None, inl, inr, min}
use Rattle.std.specs.Prelude.{nat_lt, option_map, unwrap_or, ⊤}
use Rattle.std.proofs.lemmas.Bool.Decides.{nat_tests}
use Rattle.std.proofs.Math.Nat.{min-eq_left}
use Rattle.clap.specs.Faults.{turn_fault, walk_fault}
use Rattle.clap.specs.Lexer.{usize_max}
use Rattle.clap.specs.Walk.{Row, Rule, Text, Walk, idle, is_pending, pushed, settled, to_positional, walked}
use Rattle.fx_command_line.specs.Words.{NamesWith, file_names, is_double_hyphen, is_flag}
use Rattle.fx_command_line.proofs.WordSteps.{more_named, names_at, next_fault, turn_of, value_walked, walk_at}
use Rattle.fx_command_line.proofs.SingleWords.{Fails, IsValueWord, bool_cases, held, plain_word, trailing_word}
use Rattle.fx_command_line.proofs.OptionNames.{file_named, named_double, named_file, nothing_named}
use Rattle.fx_command_line.proofs.OptionCommand.{IsCount, IsTaking, Taking, arguments, file_argument, file_by_index, place, stray_index, taking}
use Rattle.fx_command_line.proofs.OptionRows.{HoldsFirst, and_false, or_false}
use Rattle.fx_command_line.proofs.OptionSaid.{HoldsAtEnd, IsFine, Said, as_many, enough, file_said, final_rows, first_there, option_there, too_few, walk_of}
use Rattle.fx_command_line.proofs.OptionWalk.{fails_at, file_fault, kept_behind, outcome, outcome_behind, rows_kept, value_fault}

-- ---- what the words behind it name

-- the rest names these files, and all words set the option to this text or leave it out, where it was set before or
-- not, and
-- `--` stood before or not
abbrev pub Behind : Taking → Option Text → Bool → List Text → List Text → Option Text → Type 0
Behind c None true rest names text = (rest ≡ names) × (text ≡ None)
Behind c None false rest names text = NamesWith c.option rest names text
Behind c (Some set) trails rest names text = (names_at trails rest ≡ Some names) × (text ≡ Some set)

abbrev pub IsFileWord : Bool → Text → Type 0
IsFileWord true word = ⊤
IsFileWord false word = (is_double_hyphen word ≡ false) × (is_flag word ≡ false)

value_word : (c : Taking) (trails : Bool) (word : Text) → IsFileWord trails word → IsValueWord (taking c) [] trails word
value_word c true word file = trailing_word (taking c) [] word
value_word c false word file = plain_word (taking c) [] word refl file.0 file.1

pub list_same : (a b : List Text) → Some a ≡ Some b → a ≡ b
list_same a b e = ap (λ (o : Option (List Text)). unwrap_or o a) e

with_file : (c : Taking) (o : Option Text) (trails : Bool) (word : Text) (rest names : List Text) (text : Option Text)
    → IsFileWord trails word → Behind c o trails rest names text
    → Behind c o trails (word ∷ rest) (word ∷ names) text
with_file c None true word rest names text file (e, is) = (ap (λ ws. word ∷ ws) e, is)
with_file c None false word rest names text file b = file_named c.option word rest names text file.0 file.1 b
with_file c (Some l) true word rest names text file (e, is) = (ap (λ ws. Some (word ∷ ws)) (list_same rest names e), is)
with_file c (Some l) false word rest names text file (e, is) =
    (rw (file.0, file.1) (ap (option_map (λ ns. word ∷ ns)) e), is)

without_file : (c : Taking) (o : Option Text) (trails : Bool) (word : Text) (rest names : List Text)
    (text : Option Text) → IsFileWord trails word → Behind c o trails (word ∷ rest) names text
    → (others : List Text) × Behind c o trails rest others text × (names ≡ word ∷ others)
without_file c None true word rest names text file (e, is) = (rest, (refl, is), sym e)
without_file c None false word rest names text file b = named_file c.option word rest names text file.0 file.1 b
without_file c (Some l) true word rest names text file (e, is) =
    (rest, (refl, is), sym (list_same (word ∷ rest) names e))
without_file c (Some l) false word rest names text file (e, is) =
    let there : option_map (λ ns. word ∷ ns) (file_names rest) ≡ Some names = rw (file.0, file.1) at e in
    let m = more_named word (file_names rest) names there in
    (m.0, (m.1, is), m.2)

pub with_double : (c : Taking) (o : Option Text) (word : Text) (rest names : List Text) (text : Option Text)
    → is_double_hyphen word ≡ true → Behind c o true rest names text
    → Behind c o false (word ∷ rest) names text
with_double c None word rest names text double (e, is) =
    subst (λ (t : Option Text). NamesWith c.option (word ∷ rest) names t) (sym is) (rw double (ap Some e))
with_double c (Some l) word rest names text double (e, is) = (rw double e, is)

pub without_double : (c : Taking) (o : Option Text) (word : Text) (rest names : List Text) (text : Option Text)
    → IsTaking c → IsFine c text → is_double_hyphen word ≡ true → Behind c o false (word ∷ rest) names text
    → Behind c o true rest names text
without_double c None word rest names None is fine double e = let there : Some rest ≡ Some names = rw double at e in
    (list_same rest names there, refl)
without_double c None word rest names (Some text) is fine double b =
    named_double c.option word rest names (Some text) (is.name fine.0) double b
without_double c (Some l) word rest names text is fine double (e, set) = (rw double at e, set)

nothing_behind : (c : Taking) (o : Option Text) (trails : Bool) (names : List Text) (text : Option Text)
    → Behind c o trails [] names text → names ≡ []
nothing_behind c None true names text (e, is) = sym e
nothing_behind c None false names text b = (nothing_named c.option names text b).0
nothing_behind c (Some l) true names text (e, is) = sym (list_same [] names e)
nothing_behind c (Some l) false names text (e, is) = sym (list_same [] names e)

no_more : (c : Taking) (o : Option Text) (trails : Bool) → Behind c o trails [] [] o
no_more c None true = (refl, refl)
no_more c None false = refl
no_more c (Some l) true = (refl, refl)
no_more c (Some l) false = (refl, refl)

-- ---- what is judged

-- by what was said and the rest, these files and this text are named
abbrev pub Named : Taking → List Text → Option Text → Bool → List Text → List Text → Option Text → Type 0
Named c files o trails rest all text = (names : List Text) × Behind c o trails rest names text × (all ≡ files ++ names)

pub record Passes (c : Taking) (w : Walk) (N : List Text → Option Text → Type 0) (rest : List Text) : Type 0 where
  pub files : List Text
  pub option : Option Text
  pub count_is : IsCount c (length files)
  pub accepted : IsFine c option
  pub named : N files option
  pub passes : outcome c w rest ≡ []
  pub files_are : HoldsFirst (rows_kept c w rest) c.ids files
  pub option_is : HoldsAtEnd c option (rows_kept c w rest)

pub record Stops (c : Taking) (w : Walk) (N : List Text → Option Text → Type 0) (rest : List Text) : Type 0 where
  pub fails : Fails (outcome c w rest)
  pub unnamed : (files : List Text) (option : Option Text) → IsCount c (length files) → IsFine c option → N files option
      → ⊥

abbrev pub Judged : Taking → Walk → (List Text → Option Text → Type 0) → List Text → Type 0
Judged c w N rest = Passes c w N rest ⊎ Stops c w N rest

pub behind : (c : Taking) (w next : Walk) (N M : List Text → Option Text → Type 0) (word : Text) (rest : List Text)
    → turn_fault (taking c) [] w word ≡ [] → walked (arguments c) [] w word ≡ next
    → ((all : List Text) (text : Option Text) → M all text → N all text)
    → ((all : List Text) (text : Option Text) → IsFine c text → N all text → M all text) → Judged c next M rest
    → Judged c w N (word ∷ rest)
behind c w next N M word rest fine is to from (inl p) =
    let same = kept_behind c w next word rest is in
    inl (record {
      files = p.files;
      option = p.option;
      count_is = p.count_is;
      accepted = p.accepted;
      named = to p.files p.option p.named;
      passes = outcome_behind c w next word rest fine is ∙ p.passes;
      files_are = subst (λ (rows : List Row). HoldsFirst rows c.ids p.files) (sym same) p.files_are;
      option_is = subst (HoldsAtEnd c p.option) (sym same) p.option_is;
    })
behind c w next N M word rest fine is to from (inr s) = inr (record {
  fails = subst Fails (sym (outcome_behind c w next word rest fine is)) s.fails;
  unnamed = λ all text count ok named. s.unnamed all text count ok (from all text ok named);
})

-- what is said is judged with the rest
abbrev pub JudgedBy : (c : Taking) (done left files : List Text) (o : Option Text) → Said c done left files o → Bool
    → List Text → Type 0
JudgedBy c done left files o said trails rest = Judged c (walk_of said trails) (Named c files o trails rest) rest

-- so is whatever is said
abbrev pub AllJudged : Taking → Bool → List Text → Type 0
AllJudged c trails rest = (done left files : List Text) (o : Option Text) → (said : Said c done left files o)
    → JudgedBy c done left files o said trails rest

-- ---- a file more

turn_by : (c : Taking) (done left files : List Text) (o : Option Text) (said : Said c done left files o) (word : Text)
    (trails : Bool) → IsFileWord trails word
    → turn_fault (taking c) [] (walk_of said trails) word ≡ next_fault (taking c) (walk_of said trails)
turn_by c done left files o said word trails file =
    turn_of (taking c) trails word (place done) said.rows said.pending (value_word c trails word file)

file_turn : (c : Taking) (done : List Text) (id : Text) (left files : List Text) (o : Option Text)
    (said : Said c done (id ∷ left) files o) (word : Text) (trails : Bool) → IsFileWord trails word
    → turn_fault (taking c) [] (walk_of said trails) word ≡ []
file_turn c done id left files o said word trails file =
    turn_by c done (id ∷ left) files o said word trails file
    ∙ ap (value_fault c (held said.rows said.pending)) (file_by_index c done id left said.ids)
    ∙ file_fault c (held said.rows said.pending) (place done) id
    ∙ said.fine

next_place : (c : Taking) (done : List Text) (id : Text) (left : List Text) → IsTaking c → c.ids ≡ done ++ id ∷ left
    → min (place done + 1) usize_max ≡ place (done ++ id ∷ [])
next_place c done id left is ids =
    let few : place done + 1 ≤ usize_max = omega (arith, is.few, ap length ids, length-append done (id ∷ left)) in
    min-eq_left few ∙ omega (arith, length-append done (id ∷ []))

-- where a walk goes from here with a file
abbrev to_file : Taking → Walk → Text → Text → Bool → Walk
to_file c w id word several = record {
  held = pushed id word (cond several w.held (settled (arguments c) w.held));
  waiting = idle;
  position = min (w.position + 1) usize_max;
  is_trailing = w.is_trailing || false;
  stopped = None;
}

file_walk : (c : Taking) (done : List Text) (id : Text) (left files : List Text) (o : Option Text) (is : IsTaking c)
    (said : Said c done (id ∷ left) files o) (word : Text) (trails : Bool) → IsFileWord trails word
    → walked (arguments c) [] (walk_of said trails) word
    ≡ walk_of (file_said c done id left files o word is said) trails
unfolding file_said
file_walk c done id left files o is said word trails file =
    let w = walk_of said trails in
    value_walked (taking c) (place done) said.rows said.pending trails word (value_word c trails word file)
    ∙ ap (λ (a : Option Rule). to_positional (arguments c) a word w w.held) (file_by_index c done id left said.ids)
    ∙ ap (to_file c w id word) (and_false (is_pending (file_argument c.fewest (place done) id) said.pending))
    ∙ (λ i. walk_at (said.settles i) (Some (id, word ∷ [])) (next_place c done id left is said.ids i)
    (or_false trails i))

-- the rest is judged alike behind the file
file_more : (c : Taking) (done : List Text) (id : Text) (left files : List Text) (o : Option Text) (is : IsTaking c)
    (said : Said c done (id ∷ left) files o) (word : Text) (rest : List Text) (trails : Bool)
    → IsFileWord trails word → AllJudged c trails rest → JudgedBy c done (id ∷ left) files o said trails (word ∷ rest)
file_more c done id left files o is said word rest trails file go =
    let more = file_said c done id left files o word is said in
    behind c (walk_of said trails) (walk_of more trails) (Named c files o trails (word ∷ rest))
    (Named c (files ++ word ∷ []) o trails rest) word rest
    (file_turn c done id left files o said word trails file) (file_walk c done id left files o is said word trails file)
    (λ all text named. (
      word ∷ named.0,
      with_file c o trails word rest named.0 text file named.1,
      named.2
          ∙ append_assoc files (word ∷ []) named.0,
    ))
    (λ all text ok named.
    let w = without_file c o trails word rest named.0 text file named.1 in
    (w.0, w.1, named.2 ∙ ap (λ ns. files ++ ns) w.2 ∙ sym (append_assoc files (word ∷ []) w.0)))
    (go (done ++ id ∷ []) left (files ++ word ∷ []) o more)

-- a file too many
stray_file : (c : Taking) (done files : List Text) (o : Option Text) (said : Said c done [] files o) (word : Text)
    (rest : List Text) (trails : Bool) → IsFileWord trails word
    → JudgedBy c done [] files o said trails (word ∷ rest)
stray_file c done files o said word rest trails file = inr (record {
  fails = fails_at c (walk_of said trails) word rest
      (subst Fails (sym (turn_by c done [] files o said word trails file
      ∙ ap (value_fault c (held said.rows said.pending)) (stray_index c done said.ids))) tt);
  unnamed = λ all text count ok named.
      let w = without_file c o trails word rest named.0 text file named.1 in
      absurd (omega (
        arith,
        count.1,
        ap length said.ids,
        length-append done [],
        as_many said.kept done files said.has,
        ap length named.2,
        length-append files named.0,
        ap length w.2,
      ));
})

pub file_word : (c : Taking) (done left files : List Text) (o : Option Text) (is : IsTaking c)
    (said : Said c done left files o) (word : Text) (rest : List Text) (trails : Bool) → IsFileWord trails word
    → AllJudged c trails rest → JudgedBy c done left files o said trails (word ∷ rest)
file_word c done [] files o is said word rest trails file go = stray_file c done files o said word rest trails file
file_word c done (id ∷ left) files o is said word rest trails file go =
    file_more c done id left files o is said word rest trails file go

-- ---- the end of the words

counted : (c : Taking) (done left files : List Text) (o : Option Text) (said : Said c done left files o) → c.fewest
    ≤ length done → IsCount c (length files)
counted c done left files o said many = (
  omega (arith, many, as_many said.kept done files said.has),
  omega (arith, ap length said.ids, length-append done left, as_many said.kept done files said.has),
)

-- with enough files
ends_well : (c : Taking) (is : IsTaking c) (trails : Bool) (done left files : List Text) (o : Option Text)
    (said : Said c done left files o) → c.fewest ≤ length done → JudgedBy c done left files o said trails []
unfolding walk_fault
ends_well c is trails done left files o said many =
    let rows = final_rows c o said.rows said.kept said.pending is said.accepted said.settles said.option_is in
    inl (record {
      files = files;
      option = o;
      count_is = counted c done left files o said many;
      accepted = said.accepted;
      named = ([], no_more c o trails, sym (append-nil files));
      passes = enough c done left files o trails is many said;
      files_are = subst (λ (kept : List Row). HoldsFirst kept c.ids files) (sym rows)
          (first_there c done left files o is said);
      option_is = subst (HoldsAtEnd c o) (sym rows) (option_there c o said.kept said.option_is);
    })

-- with too few
ends_short : (c : Taking) (is : IsTaking c) (trails : Bool) (done left files : List Text) (o : Option Text)
    (said : Said c done left files o) → length done < c.fewest → c.fewest ≤ length c.ids
    → JudgedBy c done left files o said trails []
unfolding walk_fault
ends_short c is trails done [] files o said few fits =
    absurd (omega (arith, few, fits, ap length said.ids, length-append done []))
ends_short c is trails done (id ∷ left) files o said few fits = inr (record {
  fails = too_few c done id left files o trails is few said;
  unnamed = λ all text count ok named.
      absurd (omega (
        arith,
        few,
        count.0,
        as_many said.kept done files said.has,
        ap length named.2,
        length-append files named.0,
        ap length (nothing_behind c o trails named.0 text named.1),
      ));
})

pub words_end : (c : Taking) (is : IsTaking c) (trails : Bool) → AllJudged c trails []
words_end c is trails done left files o said = elim (bool_cases (nat_lt (length done) c.fewest)) [
  | inl few ↦ ends_short c is trails done left files o said (grind (arith, nat_tests, few)) is.fits
  | inr many ↦ ends_well c is trails done left files o said (grind (arith, nat_tests, many))
]
