-- Which words the command line takes.
use Rattle.std.proofs.Common.{◌≡◌, ◌∙◌, ◌≤◌, ◌⊎◌, true, false, refl, sym, ap, ap₂, subst, arith, List, [], ◌∷◌, length, Option, Some, None, inl, inr, codes}
use Rattle.std.specs.List.{fold}
use Rattle.std.specs.Str.{bytes_eq}
use Rattle.std.specs.Prelude.{is_some}
use Rattle.clap.specs.Walk.{Held, Names, Row, Step, Text, Walk, after_step, walked, idle, nothing_held, value, word_met, walk, walk_from, subcommand_met, subcommand_or_other, finished, settled, rows_after}
use Rattle.clap.specs.Simple.{built, entered, names_of, subcommand_of}
use Rattle.clap.specs.Kinds.{Kinds, or_else}
use Rattle.clap.specs.Faults.{check_fault, entered_fault, defaults_fault, other_fault, fault_of, settle_fault, turn_fault, walk_fault, word_fault, step_fault}
use Rattle.clap.proofs.WalkLemmas.{walk_stopped}
use Rattle.clap.proofs.FaultLemmas.{stopped_fault}
use Rattle.std.proofs.lemmas.Slice.Eq.{bytes_eq-Decides}
use Rattle.fx_command_line.specs.Words.{NamesWith, is_double_hyphen, is_flag}
use Rattle.fx_command_line.specs.CommandLine.{once_app}
use Rattle.fx_command_line.proofs.SingleWords.{Fails, fails_first, or_none, top, top_knows, bool_cases, plain_word, flag_word}
use Rattle.fx_command_line.proofs.CommandTable.{Kind, NoneOf, audit, check, collect, confirm, draw, explain, is_taking, join, kind_named, kinds, lint, name_of, named_kind, nameless, none_named, one_kind, replay, run, sum, taking_of}
use Rattle.fx_command_line.proofs.OptionCommand.{IsCount, Taking, arguments, taking}
use Rattle.fx_command_line.proofs.OptionRows.{HoldsFirst}
use Rattle.fx_command_line.proofs.OptionSaid.{HoldsAtEnd, IsFine}
use Rattle.fx_command_line.proofs.OptionWords.{OptionFails, decide_option}
use Rattle.fx_command_line.proofs.WordSteps.{command_fault}

-- ---- the program's words

-- the words name this command, these files, and this text of its option, if any
pub record NamesBy (c : Taking) (words files : List Text) (option : Option Text) : Type 0 where
  pub program : Text
  pub rest : List Text
  pub words_are : words ≡ program ∷ c.command ∷ rest
  pub named : NamesWith c.option rest files option

-- and are taken, with these rows held
pub record Takes (c : Taking) (words : List Text) : Type 0 where
  pub files : List Text
  pub option : Option Text
  pub rows : List Row
  pub count_is : IsCount c (length files)
  pub accepted : IsFine c option
  pub named : NamesBy c words files option
  pub takes : fault_of once_app words ≡ []
  pub entered : subcommand_of once_app words ≡ Some (c.command, rows)
  pub files_are : HoldsFirst rows c.ids files
  pub option_is : HoldsAtEnd c option rows

-- the words name this command with no text that it takes
abbrev pub Unnamed : Taking → List Text → Type 0
Unnamed c words = (files : List Text) (option : Option Text) → IsCount c (length files) → IsFine c option
    → NamesBy c words files option → ⊥

pub record Refuses (words : List Text) : Type 0 where
  pub fails : Fails (fault_of once_app words)
  pub unnamed : (k : Kind) → Unnamed (taking_of k) words

-- what the words come to: one of the commands takes them, or none does
abbrev pub Decided : List Text → Type 0
Decided words = ((k : Kind) × Takes (taking_of k) words) ⊎ Refuses words

abbrev commands : Names
commands = names_of (built once_app)

-- what the words come to, by where their walk ends
abbrev top_end : Kinds → Walk → Kinds
top_end before end = or_else before (or_else (entered_fault (built once_app) end.stopped)
    (or_else (settle_fault top.rules top.args_override_self end.held)
    (or_else (defaults_fault (settled top.rules end.held).rows top.rules)
    (check_fault top (finished top.rules end.held) (is_some (entered (built once_app) end.stopped))))))

-- where a command was met
abbrev met : Text → List Text → Walk
met command words = record (walk_from nothing_held) { stopped = Some (command, words) }

-- ---- a command that the program knows

-- what it makes of the words behind it
record IsCommand (c : Taking) : Type 0 where
  fault : (program : Text) (rest : List Text) → fault_of once_app (program ∷ c.command ∷ rest)
      ≡ command_fault (taking c) rest
  entered : (program : Text) (rest : List Text) → subcommand_of once_app (program ∷ c.command ∷ rest)
      ≡ Some (c.command, rows_after (arguments c) [] rest)

-- the walk stops where it meets the command
stops : (name : Text) (rest : List Text) → walked top.rules commands (walk_from nothing_held) name ≡ met name []
    → fold (walked top.rules commands) (walked top.rules commands (walk_from nothing_held) name) rest ≡ met name rest
unfolding walked
stops name rest first =
    ap (λ (w : Walk). fold (walked top.rules commands) w rest) first
    ∙ sym (walk_stopped top.rules commands (walk_from nothing_held) name [] rest)

is_command : (c : Taking) → turn_fault top commands (walk_from nothing_held) c.command ≡ []
    → walked top.rules commands (walk_from nothing_held) c.command ≡ met c.command []
    → ((rest : List Text) → top_end [] (met c.command rest) ≡ or_else (command_fault (taking c) rest) [])
    → ((rest : List Text) → entered (built once_app) (Some (c.command, rest))
    ≡ Some (c.command, rows_after (arguments c) [] rest)) → IsCommand c
unfolding walk_fault
is_command c turn first end there = record {
  fault = λ program rest.
      ap₂ (λ (k : Kinds) (w : Walk). top_end (or_else k (walk_fault top commands w rest))
      (fold (walked top.rules commands) (walked top.rules commands (walk_from nothing_held) c.command) rest)) turn
      first
      ∙ ap₂ top_end (stopped_fault top commands (walk_from nothing_held) (c.command, []) rest)
      (stops c.command rest first)
      ∙ end rest
      ∙ or_none (command_fault (taking c) rest);
  entered = λ program rest. ap (λ (w : Walk). entered (built once_app) w.stopped) (stops c.command rest first)
      ∙ there rest;
}

is_known : (k : Kind) → IsCommand (taking_of k)
unfolding walked walk_fault defaults_fault
is_known replay = is_command (taking_of replay) refl refl (λ rest. refl) (λ rest. refl)
is_known collect = is_command (taking_of collect) refl refl (λ rest. refl) (λ rest. refl)
is_known check = is_command (taking_of check) refl refl (λ rest. refl) (λ rest. refl)
is_known confirm = is_command (taking_of confirm) refl refl (λ rest. refl) (λ rest. refl)
is_known audit = is_command (taking_of audit) refl refl (λ rest. refl) (λ rest. refl)
is_known run = is_command (taking_of run) refl refl (λ rest. refl) (λ rest. refl)
is_known lint = is_command (taking_of lint) refl refl (λ rest. refl) (λ rest. refl)
is_known draw = is_command (taking_of draw) refl refl (λ rest. refl) (λ rest. refl)
is_known sum = is_command (taking_of sum) refl refl (λ rest. refl) (λ rest. refl)
is_known join = is_command (taking_of join) refl refl (λ rest. refl) (λ rest. refl)
is_known explain = is_command (taking_of explain) refl refl (λ rest. refl) (λ rest. refl)

-- ---- no command

top_turn : (words : List Text) (program command : Text)
    → Fails (turn_fault top commands (walk_from nothing_held) command)
    → Fails (fault_of once_app (program ∷ command ∷ words))
unfolding walk_fault
top_turn rest program command f =
    fails_first (walk_fault top commands (walk_from nothing_held) (command ∷ rest))
    (top_end [] (walk top.rules commands nothing_held (command ∷ rest)))
    (fails_first (turn_fault top commands (walk_from nothing_held) command)
    (walk_fault top commands (walked top.rules commands (walk_from nothing_held) command) rest) f)

after_double : Walk
after_double = record (walk_from nothing_held) { is_trailing = true }

double_fails : (rest : List Text) → Fails
    (top_end (walk_fault top commands after_double rest) (fold (walked top.rules commands) after_double rest))
unfolding walk_fault walked defaults_fault after_double
double_fails [] = tt
double_fails (word ∷ rest) = fails_first (walk_fault top commands after_double (word ∷ rest))
    (top_end [] (fold (walked top.rules commands) after_double (word ∷ rest)))
    (fails_first (turn_fault top commands after_double word)
    (walk_fault top commands (walked top.rules commands after_double word) rest) tt)

-- a word that names no command
other_fails : (program command : Text) (rest : List Text) → subcommand_met commands idle command ≡ None
    → Fails (fault_of once_app (program ∷ command ∷ rest))
unfolding walk_fault walked after_double
other_fails program command rest none = elim (bool_cases (is_double_hyphen command)) [
  | inl double ↦
      let there : walked top.rules commands (walk_from nothing_held) command ≡ after_double =
      ap (λ o. let m = subcommand_or_other top.rules o idle 1 command nothing_held in
      after_step top.rules command (walk_from nothing_held) m.0 m.1) none ∙ rw double refl in
      let turn : turn_fault top commands (walk_from nothing_held) command ≡ [] =
      ap (λ o. let m = subcommand_or_other top.rules o idle 1 command nothing_held in
      or_else (other_fault top o command nothing_held) (step_fault top 1 m.0 m.1)) none ∙ rw double refl in
      subst Fails (sym (ap₂ (λ (k : Kinds) (w : Walk). top_end (or_else k (walk_fault top commands w rest))
      (fold (walked top.rules commands) w rest)) turn there)) (double_fails rest)
  | inr single ↦ top_turn rest program command (elim (bool_cases (is_flag command)) [
    | inl flag ↦
        let m = word_met top.rules commands false idle 1 command nothing_held in
        fails_first (word_fault top commands false idle command nothing_held) (step_fault top 1 m.0 m.1)
        ((flag_word top commands command top_knows none single flag).fails [] None)
    | inr other ↦
        let is = plain_word top commands command none single other in
        let turn : turn_fault top commands (walk_from nothing_held) command ≡ step_fault top 1 nothing_held value =
        ap₂ (λ (k : Kinds) (m : Held × Step). or_else k (step_fault top 1 m.0 m.1)) (is.fine [] None) (is.met 1 [] None)
        in
        subst Fails (sym turn) tt
  ])
]

help_fails : (program : Text) (rest : List Text) → Fails (fault_of once_app (program ∷ codes "help" ∷ rest))
help_fails program rest = top_turn rest program (codes "help") tt

abbrev pub second : List Text → Text
second (program ∷ command ∷ rest) = command
second _ = []

abbrev pub behind : List Text → List Text
behind (program ∷ command ∷ rest) = rest
behind _ = []

-- ---- what words come to

at_command : (k : Kind) (program : Text) (rest : List Text) → Decided (program ∷ name_of k ∷ rest)
at_command k program rest = elim (decide_option (taking_of k) (is_taking k) rest)
    as (λ _. Decided (program ∷ name_of k ∷ rest)) [
      | inl p ↦ inl (
        k,
        record {
          files = p.files;
          option = p.option;
          rows = rows_after (arguments (taking_of k)) [] rest;
          count_is = p.count_is;
          accepted = p.accepted;
          named = record { program = program; rest = rest; words_are = refl; named = p.named };
          takes = (is_known k).fault program rest ∙ p.passes;
          entered = (is_known k).entered program rest;
          files_are = p.files_are;
          option_is = p.option_is;
        },
      )
      | inr f ↦ inr (record {
        fails = subst Fails (sym ((is_known k).fault program rest)) f.fails;
        unnamed = λ other. unnamed f other;
      })
    ]
  where
    of_this : OptionFails (taking_of k) rest → Unnamed (taking_of k) (program ∷ name_of k ∷ rest)
    of_this f files option count fine n =
        f.unnamed files option count fine (subst (λ (ws : List Text). NamesWith (taking_of k).option ws files option)
        (sym (ap behind n.words_are)) n.named)

    unnamed : OptionFails (taking_of k) rest → (other : Kind) → Unnamed (taking_of other) (program ∷ name_of k ∷ rest)
    unnamed f other files option count fine n =
        let same : k ≡ other = one_kind k other (ap second n.words_are) in
        subst (λ (x : Kind). Unnamed (taking_of x) (program ∷ name_of k ∷ rest)) same (of_this f) files option count
        fine n

at_other : (program command : Text) (rest : List Text) → kind_named command ≡ None → Refuses (program ∷ command ∷ rest)
at_other program command rest none = record {
  fails = elim (bool_cases (bytes_eq (codes "help") command)) [
    | inl is ↦
        let same : codes "help" ≡ command = (bytes_eq-Decides (codes "help") command).0 is in
        subst (λ c. Fails (fault_of once_app (program ∷ c ∷ rest))) same (help_fails program rest)
    | inr strange ↦
        let n : NoneOf command kinds = none_named command kinds none in
        other_fails program command rest (rw (
          n.0,
          n.1.0,
          n.1.1.0,
          n.1.1.1.0,
          n.1.1.1.1.0,
          n.1.1.1.1.1.0,
          n.1.1.1.1.1.1.0,
          n.1.1.1.1.1.1.1.0,
          n.1.1.1.1.1.1.1.1.0,
          n.1.1.1.1.1.1.1.1.1.0,
          n.1.1.1.1.1.1.1.1.1.1.0,
          strange,
        ) refl)
  ];
  unnamed = λ k files option count fine n. nameless command k none (sym (ap second n.words_are));
}

too_short : (words : List Text) → length words ≤ 1 → (k : Kind) → Unnamed (taking_of k) words
too_short words few k files option count fine n = let same = ap length n.words_are in absurd (omega (arith, same, few))

pub decide_words : (words : List Text) → Decided words
unfolding walk_fault defaults_fault
decide_words [] = inr (record { fails = tt; unnamed = too_short [] (omega arith) })
decide_words (program ∷ []) = inr (record { fails = tt; unnamed = too_short (program ∷ []) (omega arith) })
decide_words (program ∷ command ∷ rest) = by_name (kind_named command) refl
  where
    by_name : (o : Option Kind) → kind_named command ≡ o → Decided (program ∷ command ∷ rest)
    by_name None none = inr (at_other program command rest none)
    by_name (Some k) named = subst (λ (word : Text). Decided (program ∷ word ∷ rest)) (named_kind command k named)
        (at_command k program rest)
