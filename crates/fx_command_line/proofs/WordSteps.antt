-- One word behind a command, from where a walk stands.
use Rattle.std.proofs.Common.{◌≡◌, ap, ap₂, refl, sym, ℕ, Bool, true, false, List, [], ◌∷◌, Option, Some, None, true≢false}
use Rattle.std.specs.Prelude.{unwrap_or, is_some, option_map}
use Rattle.clap.specs.Simple.{Shape}
use Rattle.clap.specs.Walk.{Held, Row, Step, Text, Walk, after_step, idle, nothing_held, value, walked, finished, settled}
use Rattle.clap.specs.Kinds.{Kinds, or_else}
use Rattle.clap.specs.Faults.{check_fault, defaults_fault, level_fault, settle_fault, turn_fault, step_fault}
use Rattle.fx_command_line.specs.Words.{file_names, is_double_hyphen}
use Rattle.fx_command_line.proofs.SingleWords.{held, IsValueWord}

-- a walk that holds these, with no word awaited
abbrev pub walk_at : List Row → Option (Text × List Text) → ℕ → Bool → Walk
walk_at rows pending position trails = record {
  held = held rows pending;
  waiting = idle;
  position =
      position;
  is_trailing = trails;
  stopped = None;
}

pub turn_of : (s : Shape) (trails : Bool) (word : Text) (position : ℕ) (rows : List Row)
    (pending : Option (Text × List Text)) → IsValueWord s [] trails word
    → turn_fault s [] (walk_at rows pending position trails) word ≡ step_fault s position (held rows pending) value
turn_of s trails word position rows pending is =
    ap₂ (λ (k : Kinds) (m : Held × Step). or_else k (step_fault s position m.0 m.1)) (is.fine rows pending)
    (is.met position rows pending)

-- the walk behind one file more, and what is wrong with that file
abbrev pub next_walk : Shape → Walk → Text → Walk
next_walk s w word = after_step s.rules word w w.held value

abbrev pub next_fault : Shape → Walk → Kinds
next_fault s w = step_fault s w.position w.held value

pub value_walked : (s : Shape) (position : ℕ) (rows : List Row) (pending : Option (Text × List Text)) (trails : Bool)
    (word : Text) → IsValueWord s [] trails word
    → walked s.rules [] (walk_at rows pending position trails) word
    ≡ next_walk s (walk_at rows pending position trails) word
unfolding walked
value_walked s position rows pending trails word is =
    ap (λ (m : Held × Step). after_step s.rules word (walk_at rows pending position trails) m.0 m.1)
    (is.met position rows pending)

pub double_walk : (s : Shape) (position : ℕ) (rows : List Row) (pending : Option (Text × List Text)) (word : Text)
    → is_double_hyphen word ≡ true
    → walked s.rules [] (walk_at rows pending position false) word ≡ walk_at rows pending position true
unfolding walked
double_walk s position rows pending word double = rw double refl

pub double_fault : (s : Shape) (position : ℕ) (rows : List Row) (pending : Option (Text × List Text)) (word : Text)
    → is_double_hyphen word ≡ true
    → turn_fault s [] (walk_at rows pending position false) word ≡ []
double_fault s position rows pending word double = rw double refl

-- ---- the whole of a command

abbrev pub command_fault : Shape → List Text → Kinds
command_fault s rest = level_fault s [] nothing_held rest false []

-- what the last checks come to, at the end of a walk
abbrev pub at_end : Shape → Kinds → Walk → Kinds
at_end s before end = or_else before (or_else [] (or_else (settle_fault s.rules s.args_override_self end.held)
    (or_else (defaults_fault (settled s.rules end.held).rows s.rules)
    (check_fault s (finished s.rules end.held) false))))

-- ---- the files that words name

-- the files that the words name, where `--` stood before or not
abbrev pub names_at : Bool → List Text → Option (List Text)
names_at true rest = Some rest
names_at false rest = file_names rest

pub more_named : (word : Text) (o : Option (List Text)) (names : List Text) → option_map (λ ns. word ∷ ns) o
    ≡ Some names
    → (others : List Text) × (o ≡ Some others) × (names ≡ word ∷ others)
more_named word None names e = absurd (true≢false (sym (ap is_some e)))
more_named word (Some others) names e = (others, refl, sym (ap (λ (o : Option (List Text)). unwrap_or o names) e))
