-- The words behind a command: it takes just those that name its files, and set its option, if it has one, once or
-- never.
use Rattle.std.proofs.Common.{◌≡◌, ◌∙◌, ◌⊎◌, ◌==◌, ◌||◌, ℕ, Bool, true, false, refl, sym, ap, ap₂, subst, arith, List, [], ◌∷◌, ◌++◌, length, Option, Some, None, inl, inr, true≢false, codes, is_some}
use Rattle.std.specs.Prelude.{unwrap_or}
use Rattle.std.specs.Option.{option_map_or}
use Rattle.std.specs.Str.{bytes_eq}
use Rattle.std.proofs.lemmas.Slice.Eq.{bytes_eq-Decides}
use Rattle.clap.specs.Faults.{long_fault, other_fault, settle_fault, short_fault, step_fault, turn_fault, use_fault, word_fault}
use Rattle.clap.specs.Kinds.{Kinds, or_else}
use Rattle.clap.specs.Lexer.{long_of}
use Rattle.clap.specs.ValueTests.{accepts}
use Rattle.clap.specs.Values.{reading_of}
use Rattle.clap.specs.Walk.{Held, Row, Rule, Step, Text, Walk, after_flag, after_step, arg_by_long, arg_by_short, idle, long_met, rows_after, used, walked, word_met}
use Rattle.fx_command_line.specs.Words.{NamesWith, file_names, is_double_hyphen, is_flag}
use Rattle.fx_command_line.proofs.WordSteps.{command_fault, double_fault, double_walk, walk_at}
use Rattle.fx_command_line.proofs.SingleWords.{Fails, bool_cases, fails_first, first_char, flag_form, held, long_fails, long_refused, short_fails, short_refused}
use Rattle.fx_command_line.proofs.OptionNames.{OptionFirst, long_written, named_flag, option_named}
use Rattle.fx_command_line.proofs.OptionCommand.{HasOption, IsCount, IsTaking, Taking, arguments, no_long, no_short, option_argument, option_by_id, option_by_long, others, place, taking}
use Rattle.fx_command_line.proofs.OptionRows.{Has, HoldsFirst, Lacks, finds_row, held_row, lacks_row, used_row}
use Rattle.fx_command_line.proofs.OptionSaid.{HoldsAtEnd, IsFine, Said, none_of, nothing_said, option_said, option_set, walk_of}
use Rattle.fx_command_line.proofs.OptionWalk.{Unsettled, awaited_double, awaited_end, awaited_flag, awaited_turn, awaited_walk, awaiting, doomed, fails_at, fails_behind, outcome, twice}
use Rattle.fx_command_line.proofs.OptionFiles.{AllJudged, Behind, Judged, JudgedBy, Named, behind, file_word, with_double, without_double, words_end}

-- ---- flags

-- a long flag of this name, which other words aren't
is_of : (word name other : Text) (v w : Option Text) → long_of word ≡ Some (name, v) → long_of word ≡ Some (other, w)
    → (name ≡ other) × (v ≡ w)
is_of word name other v w a b =
    let same = ap (λ (o : Option (Text × Option Text)). unwrap_or o (name, v)) (sym a ∙ b) in
    (ap (λ (p : Text × Option Text). p.0) same, ap (λ (p : Text × Option Text). p.1) same)

-- a flag is the option's, or fails whatever is held
pub record Refused (c : Taking) (word : Text) : Type 0 where
  pub fails : (rows : List Row) (pending : Option (Text × List Text))
      → Fails (other_fault (taking c) None word (held rows pending))
  pub other : (v : Option Text) → c.has_option ≡ true → long_of word ≡ Some (c.option, v) → ⊥

others_long : (c : Taking) (rules : List Rule) (name : Text) (v : Option Text) (h : Held) → (c.has_option ≡ false)
    ⊎ (bytes_eq c.option name ≡ false) → Fails (long_fault rules false (arg_by_long (others c) name) v h)
others_long c rules name v h other = elim (bool_cases c.has_option) [
  | inr none ↦ rw none (long_fails rules (bytes_eq (codes "help") name || false) v h)
  | inl some ↦ elim other [
    | inl none ↦ absurd (true≢false (sym some ∙ none))
    | inr differs ↦ rw (some, differs) (long_fails rules (bytes_eq (codes "help") name || false) v h)
  ]
]

other_long : (c : Taking) (name : Text) (v : Option Text) (h : Held) → (c.has_option ≡ false)
    ⊎ (bytes_eq c.option name ≡ false) → Fails (long_fault (arguments c) false (arg_by_long (arguments c) name) v h)
other_long c name v h other =
    subst (λ (a : Option Rule). Fails (long_fault (arguments c) false a v h))
    (sym (no_long c.fewest 1 c.ids (others c) name)) (others_long c (arguments c) name v h other)

others_short : (c : Taking) (rules : List Rule) (x : ℕ) (rest : Text) (h : Held) (later : Held → Kinds)
    → Fails (short_fault rules false (arg_by_short (others c) x) rest h later)
others_short c rules x rest h later = elim (bool_cases c.has_option) [
  | inl some ↦ rw some (short_fails rules (104 == x || false) rest h later)
  | inr none ↦ rw none (short_fails rules (104 == x || false) rest h later)
]

other_short : (c : Taking) (x : ℕ) (rest : Text) (h : Held) (later : Held → Kinds)
    → Fails (short_fault (arguments c) false (arg_by_short (arguments c) x) rest h later)
other_short c x rest h later =
    subst (λ (a : Option Rule). Fails (short_fault (arguments c) false a rest h later))
    (sym (no_short c.fewest 1 c.ids (others c) x)) (others_short c (arguments c) x rest h later)

abbrev IsOption : Taking → Text → Type 0
IsOption c word = (w : Option Text) × (long_of word ≡ Some (c.option, w)) × (c.has_option ≡ true)

long_case : (c : Taking) (word name : Text) (v : Option Text) → is_double_hyphen word ≡ false → long_of word
    ≡ Some (name, v) → IsOption c word ⊎ Refused c word
long_case c word name v single long = elim (bool_cases c.has_option) [
  | inr none ↦ inr (record {
    fails = λ rows pending. long_refused (taking c) word rows pending name v single long
        (other_long c name v (held rows pending) (inl none));
    other = λ w some e. true≢false (sym some ∙ none);
  })
  | inl some ↦ elim (bool_cases (bytes_eq c.option name)) [
    | inl is ↦ inl (v, long ∙ ap (λ (n : Text). Some (n, v)) (sym ((bytes_eq-Decides c.option name).0 is)), some)
    | inr differs ↦ inr (record {
      fails = λ rows pending. long_refused (taking c) word rows pending name v single long
          (other_long c name v (held rows pending) (inr differs));
      other = λ w has e. true≢false (sym ((bytes_eq-Decides c.option name).1
          (sym (is_of word name c.option v w long e).0)) ∙ differs);
    })
  ]
]

flag_case : (c : Taking) (word : Text) → is_double_hyphen word ≡ false → is_flag word ≡ true → IsOption c word
    ⊎ Refused c word
flag_case c word single flag = elim (flag_form word single flag) [
  | inl long ↦ long_case c word long.0.0 long.0.1 single long.1
  | inr short ↦ inr (record {
    fails = λ rows pending. short_refused (taking c) word rows pending single short
        (λ x rest behind. other_short c x rest (held rows pending) behind);
    other = λ w some e. true≢false (ap is_some (sym e ∙ short.2));
  })
]

-- the words of an option, as they are read
option_long : (c : Taking) {word : Text} {rest names : List Text} {text : Text} → HasOption c
    → OptionFirst c.option word rest names text → (w : Option Text) × (long_of word ≡ Some (c.option, w))
option_long c {word} {rest} {names} {text} is f = elim f.words_are [
  | inl apart ↦ (None, ap long_of apart.0 ∙ (is.is.name is.has).alone)
  | inr whole ↦ (Some text, ap long_of whole.0 ∙ (is.is.name is.has).with_value text)
]

refused_flag : (c : Taking) (done left files : List Text) (o : Option Text) (said : Said c done left files o)
    (word : Text) (rest : List Text) → Refused c word
    → Fails (outcome c (walk_of said false) (word ∷ rest))
refused_flag c done left files o said word rest refused =
    let h = held said.rows said.pending in
    let met = word_met (arguments c) [] false idle (place done) word h in
    fails_at c (walk_of said false) word rest
    (fails_first (word_fault (taking c) [] false idle word h) (step_fault (taking c) (place done) met.0 met.1)
    (refused.fails said.rows said.pending))

-- ---- one long flag

-- what the walk comes to at a long flag, and what is wrong with it, by what is found of its name
abbrev long_step : Taking → Walk → Option Text → Text → Option Rule → Held × Step
long_step c w v word a = after_flag (arguments c) idle word (long_met (arguments c) a v w.held).0
    (long_met (arguments c) a v w.held).1

abbrev long_kinds : Taking → Walk → Option Text → Text → Option Rule → Kinds
long_kinds c w v word a = or_else (long_fault (arguments c) false a v w.held)
    (step_fault (taking c) w.position (long_step c w v word a).0 (long_step c w v word a).1)

long_walk : (c : Taking) (rows : List Row) (pending : Option (Text × List Text)) (position : ℕ) (word : Text)
    (v : Option Text) → HasOption c → is_double_hyphen word ≡ false → long_of word ≡ Some (c.option, v)
    → walked (arguments c) [] (walk_at rows pending position false) word
    ≡ after_step (arguments c) word (walk_at rows pending position false)
    (long_step c (walk_at rows pending position false) v word (Some (option_argument c))).0
    (long_step c (walk_at rows pending position false) v word (Some (option_argument c))).1
unfolding walked
long_walk c rows pending position word v o single long =
    let w = walk_at rows pending position false in
    let there : walked (arguments c) [] w word
    ≡ after_step (arguments c) word w (long_step c w v word (arg_by_long (arguments c) c.option)).0
    (long_step c w v word (arg_by_long (arguments c) c.option)).1 =
    rw (single, long) refl in
    there ∙ ap (λ (a : Option Rule). after_step (arguments c) word w (long_step c w v word a).0
    (long_step c w v word a).1) (option_by_long c o)

long_turn : (c : Taking) (rows : List Row) (pending : Option (Text × List Text)) (position : ℕ) (word : Text)
    (v : Option Text) → HasOption c → is_double_hyphen word ≡ false → long_of word ≡ Some (c.option, v)
    → turn_fault (taking c) [] (walk_at rows pending position false) word
    ≡ long_kinds c (walk_at rows pending position false) v word (Some (option_argument c))
long_turn c rows pending position word v o single long =
    let w = walk_at rows pending position false in
    let there : turn_fault (taking c) [] w word ≡ long_kinds c w v word (arg_by_long (arguments c) c.option) =
    rw (single, long) refl in
    there ∙ ap (long_kinds c w v word) (option_by_long c o)

none_behind : (k : Kinds) → k ≡ [] → or_else k [] ≡ []
none_behind k none = ap (λ (x : Kinds). or_else x []) none

-- the option, apart from its text
apart_walk : (c : Taking) (done left files : List Text) (o : Option Text) (said : Said c done left files o)
    (word : Text) → HasOption c → is_double_hyphen word ≡ false → long_of word ≡ Some (c.option, None)
    → walked (arguments c) [] (walk_of said false) word ≡ awaiting c said.kept (place done)
apart_walk c done left files o said word is single long =
    long_walk c said.rows said.pending (place done) word None is single long
    ∙ ap (λ (rows : List Row). awaiting c rows (place done)) said.settles

apart_turn : (c : Taking) (done left files : List Text) (o : Option Text) (said : Said c done left files o)
    (word : Text) → HasOption c → is_double_hyphen word ≡ false → long_of word ≡ Some (c.option, None)
    → turn_fault (taking c) [] (walk_of said false) word ≡ []
apart_turn c done left files o said word is single long =
    long_turn c said.rows said.pending (place done) word None is single long
    ∙ none_behind (settle_fault (arguments c) false (held said.rows said.pending)) said.fine

-- the option with its text
abbrev set_kinds : Taking → List Row → Text → Kinds
set_kinds c rows text = use_fault false (option_argument c) (text ∷ []) rows

set_turn : (c : Taking) (done left files : List Text) (o : Option Text) (said : Said c done left files o)
    (word text : Text) → HasOption c → is_double_hyphen word ≡ false → long_of word ≡ Some (c.option, Some text)
    → turn_fault (taking c) [] (walk_of said false) word ≡ or_else (set_kinds c said.kept text) []
set_turn c done left files o said word text is single long =
    long_turn c said.rows said.pending (place done) word (Some text) is single long
    ∙ ap₂ (λ (k : Kinds) (rows : List Row). or_else (or_else k (set_kinds c rows text)) []) said.fine said.settles

set_walk : (c : Taking) (done left files : List Text) (is : HasOption c) (said : Said c done left files None)
    (word text : Text) (fine : IsFine c (Some text))
    → is_double_hyphen word ≡ false → long_of word ≡ Some (c.option, Some text)
    → walked (arguments c) [] (walk_of said false) word
    ≡ walk_of (option_set c done left files text is.is fine said) false
unfolding option_set
set_walk c done left files is said word text fine single long =
    long_walk c said.rows said.pending (place done) word (Some text) is single long
    ∙ ap (λ (rows : List Row). walk_at (used (option_argument c) (text ∷ []) rows) None (place done) false) said.settles
    ∙ ap (λ (rows : List Row). walk_at rows None (place done) false)
    (used_row c.option (reading_of c.parser) text said.kept is.is.reading said.option_is)

first_use : (c : Taking) (text : Text) (rows : List Row) → Lacks rows c.option → accepts false c.parser text ≡ true
    → or_else (set_kinds c rows text) [] ≡ []
first_use c text rows lacks fine = rw (lacks_row rows c.option lacks, fine) refl

wrong_use : (c : Taking) (text : Text) (rows : List Row) → Lacks rows c.option → accepts false c.parser text ≡ false
    → Fails (or_else (set_kinds c rows text) [])
wrong_use c text rows lacks wrong = rw (lacks_row rows c.option lacks, wrong) tt

second_use : (c : Taking) (set text : Text) (rows : List Row) → Has rows c.option set → Fails (set_kinds c rows text)
second_use c set text rows has = rw (finds_row rows c.option (held_row c.option set) has) tt

-- what waits for its turn fails
unsettled : (c : Taking) (text : Text) (rows : List Row) → HasOption c → Fails (set_kinds c rows text)
    → Unsettled c rows (text ∷ [])
unsettled c text rows is fails = subst (λ (a : Option Rule). Fails
    (option_map_or (λ r. use_fault false r (text ∷ []) rows) a [])) (sym (option_by_id c is)) fails

wrong_text : (c : Taking) (text : Text) (rows : List Row) → Lacks rows c.option → accepts false c.parser text ≡ false
    → Fails (set_kinds c rows text)
wrong_text c text rows lacks wrong = rw (lacks_row rows c.option lacks, wrong) tt

-- ---- a flag where the option isn't set yet

-- behind these files the next word is to be the option's text
abbrev Awaited : Taking → List Text → List Text → List Text → Option Text → Type 0
Awaited c files rest all o =
    (text : Text) × (after : List Text) × (names : List Text) × (rest ≡ text ∷ after) × (is_flag text ≡ false)
    × (o ≡ Some text) × (file_names after ≡ Some names) × (all ≡ files ++ names)

abbrev AwaitedBy : (c : Taking) (done left files : List Text) → Said c done left files None → List Text → Type 0
AwaitedBy c done left files said rest = Judged c (awaiting c said.kept (place done)) (Awaited c files rest) rest

abbrev AllAwaited : Taking → List Text → Type 0
AllAwaited c rest = HasOption c → (done left files : List Text) → (said : Said c done left files None)
    → AwaitedBy c done left files said rest

-- what an option apart from its text names
apart_named : (c : Taking) (word : Text) (rest names : List Text) (o : Option Text) (is : HasOption c)
    → is_double_hyphen word ≡ false → is_flag word ≡ true → long_of word ≡ Some (c.option, None)
    → NamesWith c.option (word ∷ rest) names o → (text : Text) × (after : List Text) × (rest ≡ text ∷ after)
    × (is_flag text ≡ false) × (o ≡ Some text) × (file_names after ≡ Some names)
apart_named c word rest names o is single flag long within =
    let f = named_flag c.option word rest names o single flag within in
    elim f.2.words_are [
      | inl two ↦ (f.0, f.2.after, two.1, two.2, f.1, f.2.named)
      | inr whole ↦
          let one_word : long_of word ≡ Some (c.option, Some f.0) = ap long_of whole.0
          ∙ (is.is.name is.has).with_value f.0 in
          absurd (true≢false (sym (ap is_some (is_of word c.option c.option None (Some f.0) long one_word).1)))
    ]

apart : (c : Taking) (done left files : List Text) (is : HasOption c) (said : Said c done left files None) (word : Text)
    (rest : List Text) → is_double_hyphen word ≡ false → is_flag word ≡ true
    → long_of word ≡ Some (c.option, None) → AwaitedBy c done left files said rest
    → JudgedBy c done left files None said false (word ∷ rest)
apart c done left files is said word rest single flag long judged =
    behind c (walk_of said false) (awaiting c said.kept (place done)) (Named c files None false (word ∷ rest))
    (Awaited c files rest) word rest
    (apart_turn c done left files None said word is single long)
    (apart_walk c done left files None said word is single long)
    (λ all o named. (
      named.2,
      subst (λ (t : Option Text). NamesWith c.option (word ∷ rest) named.2 t) (sym named.5)
          (subst (λ (ws : List Text). NamesWith c.option ws named.2 (Some named.0))
          (λ i. sym (long_written word c.option None long) i ∷ sym named.3 i)
          (option_named c.option ((45 ∷ 45 ∷ c.option) ∷ named.0 ∷ []) named.1 named.2 named.0 (inl (refl, named.4))
          named.6)),
      named.7,
    ))
    (λ all o ok named.
    let f = apart_named c word rest named.0 o is single flag long named.1 in
    (f.0, f.1, named.0, f.2, f.3, f.4, f.5, named.2))
    judged

-- what an option with its text behind `=` leaves to be named
set_named : (c : Taking) (word text : Text) (rest names : List Text) (o : Option Text) (is : HasOption c)
    → is_double_hyphen word ≡ false → is_flag word ≡ true → long_of word ≡ Some (c.option, Some text)
    → NamesWith c.option (word ∷ rest) names o → (file_names rest ≡ Some names) × (o ≡ Some text)
set_named c word text rest names o is single flag long within =
    let f = named_flag c.option word rest names o single flag within in
    elim f.2.words_are [
      | inl two ↦
          let alone : long_of word ≡ Some (c.option, None) = ap long_of two.0 ∙ (is.is.name is.has).alone in
          absurd (true≢false (sym (ap is_some (is_of word c.option c.option None (Some text) alone long).1)))
      | inr whole ↦
          let one_word : long_of word ≡ Some (c.option, Some f.0) = ap long_of whole.0
          ∙ (is.is.name is.has).with_value f.0 in (
            ap file_names whole.1 ∙ f.2.named,
            f.1
                ∙ (is_of word c.option c.option (Some f.0) (Some text) one_word long).1,
          )
    ]

is_taken : (c : Taking) (text : Text) (o : Option Text) → o ≡ Some text → IsFine c o → accepts false c.parser text
    ≡ true
is_taken c text o is fine = let taken : IsFine c (Some text) = subst (IsFine c) is fine in taken.1

attached : (c : Taking) (done left files : List Text) (is : HasOption c) (said : Said c done left files None)
    (word text : Text) (rest : List Text) → is_double_hyphen word ≡ false → is_flag word ≡ true
    → long_of word ≡ Some (c.option, Some text) → AllJudged c false rest
    → JudgedBy c done left files None said false (word ∷ rest)
attached c done left files is said word text rest single flag long go =
    elim (bool_cases (accepts false c.parser text)) [
      | inl fine ↦
          let taken : IsFine c (Some text) = (is.has, fine) in
          let more = option_set c done left files text is.is taken said in
          behind c (walk_of said false) (walk_of more false) (Named c files None false (word ∷ rest))
          (Named c files (Some text) false rest) word rest
          (set_turn c done left files None said word text is single long
          ∙ first_use c text said.kept said.option_is fine)
          (set_walk c done left files is said word text taken single long)
          (λ all o named. (
            named.0,
            subst (λ (t : Option Text). NamesWith c.option (word ∷ rest) named.0 t) (sym named.1.1)
                (subst (λ (w : Text). NamesWith c.option (w ∷ rest) named.0 (Some text))
                (sym (long_written word c.option (Some text) long))
                (option_named c.option ((45 ∷ 45 ∷ (c.option ++ 61 ∷ text)) ∷ []) rest named.0 text (inr refl)
                named.1.0)),
            named.2,
          ))
          (λ all o ok named. (named.0, set_named c word text rest named.0 o is single flag long named.1, named.2))
          (go done left files (Some text) more)
      | inr wrong ↦ inr (record {
        fails = fails_at c (walk_of said false) word rest
            (subst Fails (sym (set_turn c done left files None said word text is single long))
            (wrong_use c text said.kept said.option_is wrong));
        unnamed = λ all o count ok named. true≢false
            (sym (is_taken c text o (set_named c word text rest named.0 o is single flag long named.1).1 ok) ∙ wrong);
      })
    ]

-- ---- a flag where it is set

-- no flag may stand behind it
no_flag : (c : Taking) (set word : Text) (rest names : List Text) (o : Option Text) → is_double_hyphen word ≡ false
    → is_flag word ≡ true → Behind c (Some set) false (word ∷ rest) names o → ⊥
no_flag c set word rest names o single flag (e, is) = let there : None ≡ Some names = rw (single, flag) at e in
    true≢false (sym (ap is_some there))

again : (c : Taking) (done left files : List Text) (set : Text) (is : HasOption c)
    (said : Said c done left files (Some set)) (word : Text) (rest : List Text) (v : Option Text)
    → is_double_hyphen word ≡ false → long_of word ≡ Some (c.option, v)
    → Fails (outcome c (walk_of said false) (word ∷ rest))
again c done left files set is said word rest None single long =
    fails_behind c (walk_of said false) (awaiting c said.kept (place done)) word rest
    (apart_turn c done left files (Some set) said word is single long)
    (apart_walk c done left files (Some set) said word is single long)
    (twice c rest said.kept (place done) is
    (λ text. unsettled c text said.kept is (second_use c set text said.kept said.option_is)))
again c done left files set is said word rest (Some text) single long =
    fails_at c (walk_of said false) word rest
    (subst Fails (sym (set_turn c done left files (Some set) said word text is single long))
    (fails_first (set_kinds c said.kept text) [] (second_use c set text said.kept said.option_is)))

set_flag : (c : Taking) (done left files : List Text) (set : Text) (is : IsTaking c)
    (said : Said c done left files (Some set)) (word : Text) (rest : List Text)
    → is_double_hyphen word ≡ false → is_flag word ≡ true
    → JudgedBy c done left files (Some set) said false (word ∷ rest)
set_flag c done left files set is said word rest single flag = inr (record {
  fails = elim (flag_case c word single flag) [
    | inl long ↦ again c done left files set (record { is = is; has = long.2 }) said word rest long.0 single long.1
    | inr refused ↦ refused_flag c done left files (Some set) said word rest refused
  ];
  unnamed = λ all o count ok named. no_flag c set word rest named.0 o single flag named.1;
})

-- ---- all words

plain_flag : (c : Taking) (done left files : List Text) (is : IsTaking c) (said : Said c done left files None)
    (word : Text) (rest : List Text) → is_double_hyphen word ≡ false → is_flag word ≡ true
    → AllJudged c false rest → AllAwaited c rest → JudgedBy c done left files None said false (word ∷ rest)
plain_flag c done left files is said word rest single flag go wait = elim (flag_case c word single flag) [
  | inl long ↦ text_or_none (record { is = is; has = long.2 }) long.0 long.1
  | inr refused ↦ inr (record {
    fails = refused_flag c done left files None said word rest refused;
    unnamed = λ all o count ok named.
        let f = named_flag c.option word rest named.0 o single flag named.1 in
        let taken : IsFine c (Some f.0) = subst (IsFine c) f.1 ok in
        let l = option_long c (record { is = is; has = taken.0 }) f.2 in
        refused.other l.0 taken.0 l.1;
  })
]
  where
    text_or_none : HasOption c → (v : Option Text) → long_of word ≡ Some (c.option, v)
        → JudgedBy c done left files None said false (word ∷ rest)
    text_or_none has None long = apart c done left files has said word rest single flag long
        (wait has done left files said)
    text_or_none has (Some text) long = attached c done left files has said word text rest single flag long go

flag_word : (c : Taking) (done left files : List Text) (o : Option Text) (is : IsTaking c)
    (said : Said c done left files o) (word : Text) (rest : List Text) → is_double_hyphen word ≡ false → is_flag word
    ≡ true
    → AllJudged c false rest → AllAwaited c rest → JudgedBy c done left files o said false (word ∷ rest)
flag_word c done left files None is said word rest single flag go wait =
    plain_flag c done left files is said word rest single flag go wait
flag_word c done left files (Some set) is said word rest single flag go wait =
    set_flag c done left files set is said word rest single flag

double_word : (c : Taking) (done left files : List Text) (o : Option Text) (is : IsTaking c)
    (said : Said c done left files o) (word : Text) (rest : List Text) → is_double_hyphen word ≡ true
    → JudgedBy c done left files o said true rest → JudgedBy c done left files o said false (word ∷ rest)
double_word c done left files o is said word rest double judged =
    behind c (walk_of said false) (walk_of said true) (Named c files o false (word ∷ rest)) (Named c files o true rest)
    word rest
    (double_fault (taking c) (place done) said.rows said.pending word double)
    (double_walk (taking c) (place done) said.rows said.pending word double)
    (λ all text named. (named.0, with_double c o word rest named.0 text double named.1, named.2))
    (λ all text ok named. (named.0, without_double c o word rest named.0 text is ok double named.1, named.2))
    judged

next_word : (c : Taking) (is : IsTaking c) (trails : Bool) (word : Text) (rest : List Text)
    → ((trails : Bool) → AllJudged c trails rest) → AllAwaited c rest → AllJudged c trails (word ∷ rest)
next_word c is true word rest go wait done left files o said =
    file_word c done left files o is said word rest true tt (go true)
next_word c is false word rest go wait done left files o said = elim (bool_cases (is_double_hyphen word)) [
  | inl double ↦ double_word c done left files o is said word rest double (go true done left files o said)
  | inr single ↦ elim (bool_cases (is_flag word)) [
    | inl flag ↦ flag_word c done left files o is said word rest single flag (go false) wait
    | inr file ↦ file_word c done left files o is said word rest false (single, file) (go false)
  ]
]

-- ---- the word that is to be the option's text

list_head : (a b : Text) (xs ys : List Text) → a ∷ xs ≡ b ∷ ys → a ≡ b
list_head a b xs ys e = ap (λ (l : List Text). elim l [ [] ↦ a | w ∷ ws ↦ w ]) e

list_tail : (a b : Text) (xs ys : List Text) → a ∷ xs ≡ b ∷ ys → xs ≡ ys
list_tail a b xs ys e = ap (λ (l : List Text). elim l [ [] ↦ xs | w ∷ ws ↦ ws ]) e

awaited_is : (c : Taking) (files : List Text) (word : Text) (rest all : List Text) (o : Option Text)
    → Awaited c files (word ∷ rest) all o
    → (is_flag word ≡ false) × (o ≡ Some word)
    × ((names : List Text) × (file_names rest ≡ Some names) × (all ≡ files ++ names))
awaited_is c files word rest all o (text, after, names, are, plain, is, named, whole) =
    let same : word ≡ text = list_head word text rest after are in (
      ap is_flag same ∙ plain,
      is ∙ ap Some (sym same),
      (names, ap file_names (list_tail word text rest after are) ∙ named, whole),
    )

double_is_flag : (word : Text) → is_double_hyphen word ≡ true → is_flag word ≡ true
double_is_flag word double =
    ap is_flag ((bytes_eq-Decides word (45 ∷ 45 ∷ [])).0 double) ∙ first_char []

next_text : (c : Taking) (word : Text) (rest : List Text) → AllJudged c false rest → AllAwaited c (word ∷ rest)
unfolding option_said
next_text c word rest go is done left files said = elim (bool_cases (is_double_hyphen word)) [
  | inl double ↦ inr (record {
    fails = awaited_double c said.kept (place done) word rest is double;
    unnamed = λ all o count ok w. true≢false
        (sym (double_is_flag word double) ∙ (awaited_is c files word rest all o w).0);
  })
  | inr single ↦ elim (bool_cases (is_flag word)) [
    | inl flag ↦ inr (record {
      fails = awaited_flag c said.kept (place done) word rest is single flag;
      unnamed = λ all o count ok w. true≢false (sym flag ∙ (awaited_is c files word rest all o w).0);
    })
    | inr file ↦ plain_text single file
  ]
]
  where
    plain_text : is_double_hyphen word ≡ false → is_flag word ≡ false → AwaitedBy c done left files said (word ∷ rest)
    plain_text single file = elim (bool_cases (accepts false c.parser word)) [
      | inl fine ↦
          let more = option_said c done left files word is.is (is.has, fine) said in
          behind c (awaiting c said.kept (place done)) (walk_of more false) (Awaited c files (word ∷ rest))
          (Named c files (Some word) false rest) word rest
          (awaited_turn c said.kept (place done) word is single file)
          (awaited_walk c said.kept (place done) word is single file)
          (λ all o named. (word, rest, named.0, refl, file, named.1.1, named.1.0, named.2))
          (λ all o ok w. let a = awaited_is c files word rest all o w in (a.2.0, (a.2.1, a.1), a.2.2))
          (go done left files (Some word) more)
      | inr wrong ↦ inr (record {
        fails = fails_behind c (awaiting c said.kept (place done))
            (walk_at said.kept (Some (c.option, word ∷ [])) (place done) false) word rest
            (awaited_turn c said.kept (place done) word is single file)
            (awaited_walk c said.kept (place done) word is single file)
            (doomed c rest said.kept (word ∷ []) (place done)
            (unsettled c word said.kept is (wrong_text c word said.kept said.option_is wrong)));
        unnamed = λ all o count ok w. true≢false
            (sym (is_taken c word o (awaited_is c files word rest all o w).1 ok) ∙ wrong);
      })
    ]

no_text : (c : Taking) → AllAwaited c []
no_text c is done left files said = inr (record {
  fails = awaited_end c said.kept (place done) is;
  unnamed = λ all o count ok w. absurd (omega (arith, ap length w.3));
})

judge : (c : Taking) (is : IsTaking c) (rest : List Text) → ((trails : Bool) → AllJudged c trails rest)
    × AllAwaited c rest
judge c is [] = (λ trails. words_end c is trails, no_text c)
judge c is (word ∷ rest) =
    let later = judge c is rest in
    (λ trails. next_word c is trails word rest later.0 later.1, next_text c word rest (later.0 false))

-- ---- the whole

-- the words name all files and set the option or leave it out, and this is held then
pub record OptionPasses (c : Taking) (rest : List Text) : Type 0 where
  pub files : List Text
  pub option : Option Text
  pub count_is : IsCount c (length files)
  pub accepted : IsFine c option
  pub named : NamesWith c.option rest files option
  pub passes : command_fault (taking c) rest ≡ []
  pub files_are : HoldsFirst (rows_after (arguments c) [] rest) c.ids files
  pub option_is : HoldsAtEnd c option (rows_after (arguments c) [] rest)

pub record OptionFails (c : Taking) (rest : List Text) : Type 0 where
  pub fails : Fails (command_fault (taking c) rest)
  pub unnamed : (files : List Text) (option : Option Text) → IsCount c (length files) → IsFine c option
      → NamesWith c.option rest files option → ⊥

pub decide_option : (c : Taking) → IsTaking c → (rest : List Text) → OptionPasses c rest ⊎ OptionFails c rest
unfolding nothing_said
decide_option c is rest = elim ((judge c is rest).0 false [] c.ids [] None (nothing_said c (none_of c.ids))) [
  | inl p ↦ inl (record {
    files = p.files;
    option = p.option;
    count_is = p.count_is;
    accepted = p.accepted;
    named = subst (λ (files : List Text). NamesWith c.option rest files p.option) (sym p.named.2) p.named.1;
    passes = p.passes;
    files_are = p.files_are;
    option_is = p.option_is;
  })
  | inr s ↦ inr (record {
    fails = s.fails;
    unnamed =
        λ files o count ok named. s.unnamed files o count ok (files, named, refl);
  })
]
