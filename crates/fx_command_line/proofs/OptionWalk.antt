-- The walk over the words behind a command with an option that is set once or never, before its end is judged.
use Rattle.std.proofs.Common.{◌≡◌, ◌∙◌, ℕ, Bool, cond, true, false, refl, sym, ap, ap₂, subst, List, [], ◌∷◌, length, Option, Some, None, inl, inr, is_some}
use Rattle.std.specs.List.{fold}
use Rattle.std.specs.Option.{option_map_or}
use Rattle.clap.specs.Kinds.{Kinds, or_else}
use Rattle.clap.specs.declared.error.kind.ErrorKind.TheVariants.{TooManyValues}
use Rattle.clap.specs.Faults.{check_fault, defaults_fault, long_fault, option_fault, other_fault, positional_fault, react_fault, settle_fault, short_fault, step_fault, stray_fault, turn_fault, use_fault, walk_fault, word_fault}
use Rattle.clap.specs.Walk.{after_step, Held, Row, Rule, Step, Text, Waiting, Walk, arg_by_long, arg_by_short, attached_value, finished, idle, is_pending, next, option, option_word, plain, plain_word as plain_step, reacted, settled, takes_values, value, walked, word_met}
use Rattle.clap.proofs.FaultLemmas.{fault_ends}
use Rattle.clap.proofs.WalkLemmas.{bundle_ends}
use Rattle.fx_command_line.specs.Words.{is_double_hyphen, is_flag}
use Rattle.fx_command_line.proofs.WordSteps.{at_end, double_fault, double_walk, turn_of, walk_at}
use Rattle.fx_command_line.proofs.SingleWords.{Fails, IsNoFlag, bool_cases, fails_first, flag_form, held, long_refused, plain_form, plain_word, short_refused}
use Rattle.fx_command_line.proofs.OptionCommand.{HasOption, Taking, arguments, file_argument, option_argument, option_by_id, same_text as same_name, file_or_none, taking}
use Rattle.fx_command_line.proofs.OptionRows.{and_false}

-- ---- the whole of the command, from where a walk stands

abbrev pub outcome : Taking → Walk → List Text → Kinds
outcome c w rest = at_end (taking c) (walk_fault (taking c) [] w rest) (fold (walked (arguments c) []) w rest)

abbrev pub rows_kept : Taking → Walk → List Text → List Row
rows_kept c w rest = finished (arguments c) (fold (walked (arguments c) []) w rest).held

pub outcome_behind : (c : Taking) (w behind : Walk) (word : Text) (rest : List Text) → turn_fault (taking c) [] w word
    ≡ [] → walked (arguments c) [] w word ≡ behind
    → outcome c w (word ∷ rest) ≡ outcome c behind rest
unfolding walk_fault
outcome_behind c w behind word rest fine is =
    ap₂ (λ (k : Kinds) (v : Walk). at_end (taking c) (or_else k (walk_fault (taking c) [] v rest))
    (fold (walked (arguments c) []) v rest)) fine is

pub kept_behind : (c : Taking) (w behind : Walk) (word : Text) (rest : List Text) → walked (arguments c) [] w word
    ≡ behind → rows_kept c w (word ∷ rest) ≡ rows_kept c behind rest
kept_behind c w behind word rest is = ap (λ (v : Walk). finished (arguments c)
    (fold (walked (arguments c) []) v rest).held) is

pub fails_at : (c : Taking) (w : Walk) (word : Text) (rest : List Text) → Fails (turn_fault (taking c) [] w word)
    → Fails (outcome c w (word ∷ rest))
unfolding walk_fault
fails_at c w word rest fails =
    fails_first (walk_fault (taking c) [] w (word ∷ rest))
    (at_end (taking c) [] (fold (walked (arguments c) []) w (word ∷ rest)))
    (fails_first (turn_fault (taking c) [] w word) (walk_fault (taking c) [] (walked (arguments c) [] w word) rest)
    fails)

pub fails_behind : (c : Taking) (w behind : Walk) (word : Text) (rest : List Text) → turn_fault (taking c) [] w word
    ≡ [] → walked (arguments c) [] w word ≡ behind
    → Fails (outcome c behind rest) → Fails (outcome c w (word ∷ rest))
fails_behind c w behind word rest fine is fails = subst Fails (sym (outcome_behind c w behind word rest fine is)) fails

-- ---- where what is held of the option fails, nothing mends it

-- the option's texts are held, and aren't taken
abbrev pub Unsettled : Taking → List Row → List Text → Type 0
Unsettled c rows values = Fails (settle_fault (arguments c) false (held rows (Some (c.option, values))))

fails_at_end : (c : Taking) (w : Walk) → Fails (settle_fault (arguments c) false w.held) → Fails (outcome c w [])
unfolding walk_fault
fails_at_end c w fails =
    fails_first (settle_fault (arguments c) false w.held)
    (or_else (defaults_fault (settled (arguments c) w.held).rows (arguments c))
    (check_fault (taking c) (finished (arguments c) w.held) false)) fails

option_unsettled : (rules : List Rule) (a : Rule) (v : Option Text) (h : Held) → Fails (settle_fault rules false h)
    → Fails (option_fault rules false a v h)
option_unsettled rules a None h fails = fails
option_unsettled rules a (Some v) h fails =
    fails_first (settle_fault rules false h) (use_fault false a (v ∷ []) (settled rules h).rows) fails

react_unsettled : (rules : List Rule) (a : Rule) (h : Held) → Fails (settle_fault rules false h)
    → Fails (react_fault rules false a [] h)
react_unsettled rules a h fails = fails_first (settle_fault rules false h) (use_fault false a [] (settled rules h).rows)
    fails

long_unsettled : (rules : List Rule) (o : Option Rule) (v : Option Text) (h : Held) → Fails (settle_fault rules false h)
    → Fails (long_fault rules false o v h)
long_unsettled rules None v h fails = tt
long_unsettled rules (Some a) v h fails = go (takes_values a) v
  where
    go : (b : Bool) (v : Option Text) → Fails
        (cond b (option_fault rules false a v h)
        (cond (is_some v) (TooManyValues ∷ []) (react_fault rules false a [] h)))
    go true v = option_unsettled rules a v h fails
    go false None = react_unsettled rules a h fails
    go false (Some x) = tt

short_unsettled : (rules : List Rule) (o : Option Rule) (rest : Text) (h : Held) (behind : Held → Kinds)
    → Fails (settle_fault rules false h) → Fails (short_fault rules false o rest h behind)
short_unsettled rules None rest h behind fails = tt
short_unsettled rules (Some a) rest h behind fails = go (takes_values a)
  where
    go : (b : Bool) → Fails (cond b (option_fault rules false a (attached_value rest) h)
        (or_else (react_fault rules false a [] h) (behind (reacted rules a [] h))))
    go true = option_unsettled rules a (attached_value rest) h fails
    go false = fails_first (react_fault rules false a [] h) (behind (reacted rules a [] h))
        (react_unsettled rules a h fails)

flag_unsettled : (c : Taking) (word : Text) (rows : List Row) (values : List Text) → Unsettled c rows values
    → is_double_hyphen word ≡ false → is_flag word ≡ true
    → Fails (other_fault (taking c) None word (held rows (Some (c.option, values))))
flag_unsettled c word rows values fails single flag = elim (flag_form word single flag) [
  | inl long ↦ long_refused (taking c) word rows (Some (c.option, values)) long.0.0 long.0.1 single long.1
      (long_unsettled (arguments c) (arg_by_long (arguments c) long.0.0) long.0.1 (held rows (Some (c.option, values)))
      fails)
  | inr short ↦ short_refused (taking c) word rows (Some (c.option, values)) single short
      (λ x rest behind. short_unsettled (arguments c) (arg_by_short (arguments c) x) rest
      (held rows (Some (c.option, values))) behind fails)
]

-- what is wrong with a word that goes to an argument by its position
abbrev pub value_fault : Taking → Held → Option Rule → Kinds
value_fault c h a = option_map_or (λ r. positional_fault (arguments c) false r h) a (stray_fault (taking c))

pub file_fault : (c : Taking) (h : Held) (n : ℕ) (id : Text) → value_fault c h (Some (file_argument c.fewest n id))
    ≡ settle_fault (arguments c) false h
file_fault c h n id = ap (λ (b : Bool). cond b [] (settle_fault (arguments c) false h))
    (and_false (is_pending (file_argument c.fewest n id) h.pending))

file_unsettled : (c : Taking) (rows : List Row) (values : List Text) (position : ℕ) → Unsettled c rows values
    → Fails (step_fault (taking c) position (held rows (Some (c.option, values))) value)
file_unsettled c rows values position fails = elim (file_or_none c position) [
  | inl none ↦ subst (λ (a : Option Rule). Fails (value_fault c (held rows (Some (c.option, values))) a)) (sym none) tt
  | inr (n, id, is) ↦ subst (λ (a : Option Rule). Fails (value_fault c (held rows (Some (c.option, values))) a))
      (sym is)
      (subst Fails (sym (file_fault c (held rows (Some (c.option, values))) n id)) fails)
]

-- what waits where words trail doesn't matter
doomed_trailing : (c : Taking) (rest : List Text) (rows : List Row) (values : List Text) (position : ℕ)
    (waiting : Waiting) → Unsettled c rows values
    → Fails (outcome c (record (walk_at rows (Some (c.option, values)) position true) { waiting = waiting }) rest)
doomed_trailing c [] rows values position waiting fails =
    fails_at_end c (record (walk_at rows (Some (c.option, values)) position true) { waiting = waiting }) fails
doomed_trailing c (word ∷ rest) rows values position waiting fails =
    fails_at c (record (walk_at rows (Some (c.option, values)) position true) { waiting = waiting }) word rest
    (file_unsettled c rows values position fails)

pub doomed : (c : Taking) (rest : List Text) (rows : List Row) (values : List Text) (position : ℕ)
    → Unsettled c rows values
    → Fails (outcome c (walk_at rows (Some (c.option, values)) position false) rest)
doomed c [] rows values position fails = fails_at_end c (walk_at rows (Some (c.option, values)) position false) fails
doomed c (word ∷ rest) rows values position fails = elim (bool_cases (is_double_hyphen word)) [
  | inl double ↦ fails_behind c (walk_at rows (Some (c.option, values)) position false)
      (walk_at rows (Some (c.option, values)) position true) word rest
      (double_fault (taking c) position rows (Some (c.option, values)) word double)
      (double_walk (taking c) position rows (Some (c.option, values)) word double)
      (doomed_trailing c rest rows values position idle fails)
  | inr single ↦ fails_at c (walk_at rows (Some (c.option, values)) position false) word rest
      (elim (bool_cases (is_flag word)) [
        | inl flag ↦
            let met = word_met (arguments c) [] false idle position word (held rows (Some (c.option, values))) in
            fails_first (word_fault (taking c) [] false idle word (held rows (Some (c.option, values))))
            (step_fault (taking c) position met.0 met.1) (flag_unsettled c word rows values fails single flag)
        | inr file ↦ subst Fails (sym (turn_of (taking c) false word position rows (Some (c.option, values))
            (plain_word (taking c) [] word refl single file))) (file_unsettled c rows values position fails)
      ])
]

-- ---- where the option's text is awaited

abbrev pub awaiting : Taking → List Row → ℕ → Walk
awaiting c rows position = record (walk_at rows (Some (c.option, [])) position false) { waiting = option c.option }

abbrev awaits : Taking → List Row → Held
awaits c rows = held rows (Some (c.option, []))

awaited_met : (c : Taking) (rows : List Row) (position : ℕ) (word : Text) → is_double_hyphen word ≡ false
    → IsNoFlag word
    → word_met (arguments c) [] false (option c.option) position word (awaits c rows)
    ≡ plain_step (arguments c) (option c.option) word (awaits c rows)
awaited_met c rows position word single (long, inl short) = rw (single, long, short) refl
awaited_met c rows position word single (long, inr (flags, short, empty)) =
    let ends = bundle_ends (arguments c) (length flags) flags 0 plain (awaits c rows) (sym empty) in
    rw (single, long, short, ← ends) refl

awaited_fine : (c : Taking) (rows : List Row) (word : Text) → is_double_hyphen word ≡ false → IsNoFlag word
    → word_fault (taking c) [] false (option c.option) word (awaits c rows) ≡ []
awaited_fine c rows word single (long, inl short) = rw (single, long, short) refl
awaited_fine c rows word single (long, inr (flags, short, empty)) =
    let ends = fault_ends (arguments c) false (length flags) flags 0 (awaits c rows) (sym empty) in
    rw (single, long, short, ← ends) refl

-- the text is the option's, and no other is awaited
taken_word : (c : Taking) (rows : List Row) (word : Text)
    → option_word (Some (option_argument c)) c.option word (awaits c rows)
    ≡ (held rows (Some (c.option, word ∷ [])), idle)
taken_word c rows word = rw (same_name c.option) refl

awaited_step : (c : Taking) (rows : List Row) (word : Text) → HasOption c
    → plain_step (arguments c) (option c.option) word (awaits c rows)
    ≡ (held rows (Some (c.option, word ∷ [])), next idle)
awaited_step c rows word is =
    ap (λ (a : Option Rule). (
      (option_word a c.option word (awaits c rows)).0,
      next
          (option_word a c.option word (awaits c rows)).1,
    )) (option_by_id c is)
    ∙ ap (λ (p : Held × Waiting). (p.0, next p.1)) (taken_word c rows word)

awaited_whole : (c : Taking) (rows : List Row) (position : ℕ) (word : Text) → HasOption c → is_double_hyphen word
    ≡ false → is_flag word ≡ false
    → word_met (arguments c) [] false (option c.option) position word (awaits c rows)
    ≡ (held rows (Some (c.option, word ∷ [])), next idle)
awaited_whole c rows position word is single file =
    awaited_met c rows position word single (plain_form word single file) ∙ awaited_step c rows word is

pub awaited_walk : (c : Taking) (rows : List Row) (position : ℕ) (word : Text) → HasOption c → is_double_hyphen word
    ≡ false → is_flag word ≡ false
    → walked (arguments c) [] (awaiting c rows position) word ≡ walk_at rows (Some (c.option, word ∷ [])) position false
unfolding walked
awaited_walk c rows position word is single file =
    ap (λ (m : Held × Step). after_step (arguments c) word (awaiting c rows position) m.0 m.1)
    (awaited_whole c rows position word is single file)

pub awaited_turn : (c : Taking) (rows : List Row) (position : ℕ) (word : Text) → HasOption c → is_double_hyphen word
    ≡ false → is_flag word ≡ false
    → turn_fault (taking c) [] (awaiting c rows position) word ≡ []
awaited_turn c rows position word is single file =
    ap₂ (λ (k : Kinds) (m : Held × Step). or_else k (step_fault (taking c) position m.0 m.1))
    (awaited_fine c rows word single (plain_form word single file))
    (awaited_whole c rows position word is single file)

trailing_walk : (c : Taking) (rows : List Row) (position : ℕ) (word : Text) → is_double_hyphen word ≡ true
    → walked (arguments c) [] (awaiting c rows position) word
    ≡ record (walk_at rows (Some (c.option, [])) position true) { waiting = option c.option }
unfolding walked
trailing_walk c rows position word double = rw double refl

trailing_turn : (c : Taking) (rows : List Row) (position : ℕ) (word : Text) → is_double_hyphen word ≡ true
    → turn_fault (taking c) [] (awaiting c rows position) word ≡ []
trailing_turn c rows position word double = rw double refl

-- no text is no use of the option
no_text : (c : Taking) (rows : List Row) → HasOption c → Unsettled c rows []
no_text c rows is = subst (λ (a : Option Rule). Fails (option_map_or (λ r. use_fault false r [] rows) a []))
    (sym (option_by_id c is)) tt

-- no text comes: the words end, or `--` or a flag is next
pub awaited_end : (c : Taking) (rows : List Row) (position : ℕ) → HasOption c
    → Fails (outcome c (awaiting c rows position) [])
awaited_end c rows position is = fails_at_end c (awaiting c rows position) (no_text c rows is)

pub awaited_double : (c : Taking) (rows : List Row) (position : ℕ) (word : Text) (rest : List Text) → HasOption c
    → is_double_hyphen word ≡ true → Fails (outcome c (awaiting c rows position) (word ∷ rest))
awaited_double c rows position word rest is double =
    fails_behind c (awaiting c rows position)
    (record (walk_at rows (Some (c.option, [])) position true) { waiting = option c.option }) word rest
    (trailing_turn c rows position word double) (trailing_walk c rows position word double)
    (doomed_trailing c rest rows [] position (option c.option) (no_text c rows is))

pub awaited_flag : (c : Taking) (rows : List Row) (position : ℕ) (word : Text) (rest : List Text) → HasOption c
    → is_double_hyphen word ≡ false → is_flag word ≡ true
    → Fails (outcome c (awaiting c rows position) (word ∷ rest))
awaited_flag c rows position word rest is single flag =
    let met = word_met (arguments c) [] false (option c.option) position word (awaits c rows) in
    fails_at c (awaiting c rows position) word rest
    (fails_first (word_fault (taking c) [] false (option c.option) word (awaits c rows))
    (step_fault (taking c) position met.0 met.1) (flag_unsettled c word rows [] (no_text c rows is) single flag))

-- a second text is never taken, whatever it is
pub twice : (c : Taking) (rest : List Text) (rows : List Row) (position : ℕ) → HasOption c
    → ((text : Text) → Unsettled c rows (text ∷ [])) → Fails (outcome c (awaiting c rows position) rest)
twice c [] rows position is fails = awaited_end c rows position is
twice c (word ∷ rest) rows position is fails = elim (bool_cases (is_double_hyphen word)) [
  | inl double ↦ awaited_double c rows position word rest is double
  | inr single ↦ elim (bool_cases (is_flag word)) [
    | inl flag ↦ awaited_flag c rows position word rest is single flag
    | inr file ↦ fails_behind c (awaiting c rows position) (walk_at rows (Some (c.option, word ∷ [])) position false)
        word rest
        (awaited_turn c rows position word is single file) (awaited_walk c rows position word is single file)
        (doomed c rest rows (word ∷ []) position (fails word))
  ]
]
