-- How the text of totals is read and added to a sum.
use Rattle.std.specs.Prelude.{◌≡◌, ℕ, zero, suc, ◌<◌, ◌⊎◌, nat_lt, Bool, true, false, if◌then◌else◌, List, [], ◌∷◌, length, codes, Option, Some, None, Result, Ok, Err}
use Rattle.fx_base.specs.declared.fault.Fault.{Fault}
use Rattle.fx_base.specs.declared.fault.Place.TheVariants as places
use Rattle.fx_base.specs.Fault.{fault_at}
use Rattle.fx_base.specs.Device.{MayBeLeft, MayHaveLeft}
use Rattle.fx_base.specs.Limits.{line_length_limit}
use Rattle.fx_base.specs.Lines.{Lines, GoesOnToLines, Fails, text_lines, next_number, line_budget}
use Rattle.fx_base.specs.Refusals.{long_line, totals_form}
use Rattle.fx_layout.specs.Keys.{Layout}
use Rattle.fx_collect.specs.Totals.{Totals, with_record, with_unassigned}
use Rattle.fx_sums.specs.declared.notes.Notes.{Notes}
use Rattle.fx_sums.specs.Sums.{Sum, no_notes, plus_notes}
use Rattle.fx_sums.specs.declared.line_behind.LineBehind.{LineBehind}
use Rattle.fx_sums.specs.declared.line_behind.LineBehind.TheVariants as behind
use Rattle.fx_sums.specs.SumLines.{number_behind, record_behind, line_behind, are_whole}

infixl 10 ◌>>=◌
abbrev pub ◌>>=◌ : {A B : Type 0} → Result A Fault → (A → Result B Fault) → Result B Fault
(Ok x) >>= f = f x
(Err e) >>= f = Err e

-- ---- lines

-- a line, and whether a line feed ended it
abbrev pub SumLine : Type 0
SumLine = List ℕ × Bool

-- the number of the previous line, and the lines still to be read
abbrev pub Rest : Type 0
Rest = ℕ × List SumLine

-- the fault if the line after line n is missing
abbrev pub missing : ℕ → Fault
missing n = fault_at totals_form (places.Line (next_number n))

-- the fault if line n doesn't have the required form
abbrev pub wrong : ℕ → Fault
wrong n = fault_at totals_form (places.Line n)

-- the bytes of line n, which is within the limit and ended by a line feed
abbrev pub bytes_of : ℕ → SumLine → Result (List ℕ) Fault
bytes_of n l = if nat_lt line_length_limit (length l.0) then Err (fault_at long_line (places.Line n)) else if l.1
    then Ok l.0 else Err (wrong n)

-- what line n says, or the fault if it says nothing
abbrev pub formed : {A : Type 0} → ℕ → Option A → Result A Fault
formed n None = Err (wrong n)
formed n (Some x) = Ok x

-- the next line, which must exist
abbrev pub next_line : Rest → Result (List ℕ × Rest) Fault
next_line (n, []) = Err (missing n)
next_line (n, l ∷ ls) = bytes_of (next_number n) l >>= λ line. Ok (line, (next_number n, ls))

-- the result of reading the next line
abbrev pub in_line : {A : Type 0} → (List ℕ → Option A) → Rest → Result (A × Rest) Fault
in_line read rest = do
  line ← next_line rest
  x ← formed line.1.0 (read line.0)
  Ok (x, line.1)

-- ---- totals and notes

-- the totals with this number of records added, each on its own line, with keys that ascend after the last one
abbrev pub tallied : Layout → ℕ → Option (List ℕ) → Totals → Rest → Result (Totals × Rest) Fault
tallied layout zero last t rest = Ok (t, rest)
tallied layout (suc more) last t rest =
    in_line (record_behind layout last) rest >>= λ r. tallied layout more (Some r.0.key.values) (with_record t r.0) r.1

-- the totals with those of a text added, after the line that gives its number of keys
unfoldable pub totals_with : Layout → ℕ → Totals → Rest → Result (Totals × Rest) Fault
totals_with layout keys t rest = do
  sum ← tallied layout keys None t rest
  unassigned ← in_line (number_behind (codes "unassigned")) sum.1
  Ok (with_unassigned sum.0 unassigned.0, unassigned.1)

-- where a text ends: at the end of the lines, or at the line that gives the next text's number of keys, with the lines
-- after it
abbrev pub Next : Type 0
Next = Option (ℕ × Rest)

-- the result of reading on after a line, or where the text ends
abbrev pub on_or_next : (Notes → Result (Notes × Next) Fault) → Notes → Rest → LineBehind → Result (Notes × Next) Fault
on_or_next on notes rest (behind.Notes more) = on more
on_or_next on notes rest (behind.Keys keys) = Ok (notes, Some (keys, rest))

-- these notes and those up to the end of the text
abbrev pub notes_first : Notes → ℕ → List SumLine → Result (Notes × Next) Fault
notes_first notes n [] = if are_whole notes then Ok (notes, None) else Err (missing n)
notes_first notes n (l ∷ ls) = do
  line ← bytes_of (next_number n) l
  said ← formed (next_number n) (line_behind notes line)
  on_or_next (λ more. notes_first more (next_number n) ls) notes (next_number n, ls) said

-- the notes of a text
abbrev pub notes_of : Rest → Result (Notes × Next) Fault
notes_of rest = notes_first no_notes rest.0 rest.1

-- the sum with the totals and the notes of a text added, after the line that gives the number of keys
unfoldable pub sum_with : ℕ → Sum → Rest → Result (Sum × Next) Fault
sum_with keys s rest = do
  totals ← totals_with s.totals.layout keys s.totals rest
  notes ← notes_of totals.1
  Ok (record { totals = totals.0; notes = plus_notes s.notes notes.0 }, notes.1)

-- ---- texts

-- the sum with each text up to the end added, with at most this number of texts
abbrev pub texts_up_to : Sum → Next → ℕ → Result Sum Fault
texts_up_to s None most = Ok s
texts_up_to s (Some next) zero = Err (missing next.1.0)
texts_up_to s (Some next) (suc most) = sum_with next.0 s next.1 >>= λ r. texts_up_to r.0 r.1 most

-- the sum with one or more texts added; each text has at least one line
unfoldable pub sum_of_texts : Sum → Rest → Result Sum Fault
sum_of_texts s rest = do
  first ← in_line (number_behind (codes "keys")) rest
  texts_up_to s (Some first) (length rest.1)

-- ---- for a reader of lines

-- the reader hasn't stopped, and has advanced
pub record GoesOnFrom (old new : Lines) : Type 0 where
  pub going : new.stopped ≡ None
  pub on : GoesOnToLines old new
  pub smaller : line_budget new < line_budget old

-- this is the result of reading what the reader may have left
abbrev pub MayReadTexts : {A : Type 0} → (Rest → Result A Fault) → Lines → Result A Fault → Type 0
MayReadTexts read lines result = MayHaveLeft lines.left (λ text. read (lines.number, text_lines text) ≡ result)

-- whatever is left now, this is what was read from what may have been left before
abbrev pub Gives : {A : Type 0} → (Rest → Result (A × Rest) Fault) → Lines → Lines → A → Type 0
Gives read old new x = (rest : List ℕ) → MayBeLeft new.left rest
    → MayReadTexts read old (Ok (x, (new.number, text_lines rest)))

-- the reader fails as a reader of lines does, or with the fault of this reading
abbrev pub RefusesTexts : {A : Type 0} → (Rest → Result A Fault) → Lines → Lines → Fault → Type 0
RefusesTexts read old new e = Fails old new e ⊎ MayReadTexts read old (Err e)

-- the result ends a text, and the reader is where the text ends: at the end, or after the next text's first line
abbrev pub GivesText : {A : Type 0} → (Rest → Result (A × Next) Fault) → Lines → Lines → A → Option ℕ → Type 0
GivesText read old new x None = MayReadTexts read old (Ok (x, None))
GivesText read old new x (Some keys) =
    GoesOnFrom old new
    × ((rest : List ℕ) → MayBeLeft new.left rest
    → MayReadTexts read old (Ok (x, Some (keys, (new.number, text_lines rest)))))

-- a line is left, and the property holds for it and the lines after it
abbrev pub MayMeet : Lines → (SumLine → List SumLine → Type 0) → Type 0
MayMeet lines P = MayHaveLeft lines.left
    (λ text. (l : SumLine) × (ls : List SumLine) × (text_lines text ≡ l ∷ ls) × P l ls)

-- the reader advances to a line that a line feed ends
pub record GoesOnToLine (old new : Lines) : Type 0 where
  pub going : new.stopped ≡ None
  pub on : GoesOnToLines old new
  pub number : new.number ≡ next_number old.number
  pub smaller : line_budget new < line_budget old
  pub meets : (rest : List ℕ) → MayBeLeft new.left rest
      → MayMeet old (λ l ls. (bytes_of new.number l ≡ Ok new.line) × (ls ≡ text_lines rest))

-- the reader is at the end of the text
pub record IsAtEnd (old new : Lines) : Type 0 where
  pub number : new.number ≡ old.number
  pub ends : MayHaveLeft old.left (λ text. text ≡ [])

abbrev pub GoesOnOrEnds : Lines → Lines → Result Bool Fault → Type 0
GoesOnOrEnds old new (Ok true) = GoesOnToLine old new
GoesOnOrEnds old new (Ok false) = IsAtEnd old new
GoesOnOrEnds old new (Err e) = Fails old new e ⊎ MayMeet old (λ l ls. bytes_of (next_number old.number) l ≡ Err e)
