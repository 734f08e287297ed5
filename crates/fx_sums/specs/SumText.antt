-- The text of totals and of the notes that accompany them.
use Rattle.std.specs.Prelude.{◌≡◌, ℕ, ◌^◌, ◌≤◌, ◌<◌, Bool, true, false, List, [], ◌∷◌, ◌++◌, flat_map, length, codes, decimal, Option, Some, None, IfSome, is_some}
use Rattle.std.specs.List.{AllByRecursion}
use Rattle.fx_base.specs.Lines.{text_lines}
use Rattle.fx_base.specs.Limits.{line_length_limit}
use Rattle.fx_layout.specs.Keys.{Layout, HasBits, comes_before}
use Rattle.fx_tables.specs.declared.record.Record.{Record}
use Rattle.fx_machine.specs.Sums.{IsBelow}
use Rattle.fx_collect.specs.Report.{number_line, totals_text}
use Rattle.fx_sums.specs.declared.notes.Notes.{Notes}
use Rattle.fx_sums.specs.declared.notes.SkippedFrames.{SkippedFrames}
use Rattle.fx_sums.specs.Sums.{Sum}

-- whether a replayed run was complete
abbrev pub complete_text : Option Bool → List ℕ
complete_text None = []
complete_text (Some true) = codes "complete yes" ++ 10 ∷ []
complete_text (Some false) = codes "complete no" ++ 10 ∷ []

-- the number of frames of a capture that were skipped
abbrev pub frames_text : Option SkippedFrames → List ℕ
frames_text None = []
frames_text (Some f) = codes "skipped other " ++ (decimal f.other ++ number_line (codes " malformed ") f.malformed)

-- a word and a number, if there is a number
abbrev pub number_text : List ℕ → Option ℕ → List ℕ
number_text word None = []
number_text word (Some n) = number_line word n

-- the last two notes are those of a stream
abbrev pub notes_text : Notes → List ℕ
notes_text n = complete_text n.complete
    ++ (frames_text n.frames ++ (number_text (codes "gaps ") n.gaps ++ number_text (codes "skipped ") n.skipped))

abbrev pub noted_text : Sum → List ℕ
noted_text s = totals_text s.totals ++ notes_text s.notes

-- these texts in order
abbrev pub noted_texts : List Sum → List ℕ
noted_texts ts = flat_map noted_text ts

-- ---- values whose text can be read back

-- these values are after the last ones, if there are last ones
abbrev pub comes_behind : Option (List ℕ) → List ℕ → Bool
comes_behind None values = true
comes_behind (Some last) values = comes_before last values

-- each key is after the one before it
abbrev pub KeysAscendBehind : Option (List ℕ) → List Record → Type 0
KeysAscendBehind last [] = Unit {0}
KeysAscendBehind last (r ∷ rs) = (comes_behind last r.key.values ≡ true) × KeysAscendBehind (Some r.key.values) rs

-- a record with a key of the layout, and counts below 2 to the 64
abbrev pub IsRecordUnder : Layout → Record → Type 0
IsRecordUnder layout r = (r.key.layout ≡ layout) × HasBits layout r.key.values × IsBelow r.counts

-- the numbers are below 2 to the 64, and the two notes of a stream occur together
pub record AreNotes (n : Notes) : Type 0 where
  pub frames : IfSome n.frames (λ f. (f.other < 2 ^ 64) × (f.malformed < 2 ^ 64))
  pub gaps : IfSome n.gaps (λ g. g < 2 ^ 64)
  pub skipped : IfSome n.skipped (λ s. s < 2 ^ 64)
  pub together : is_some n.skipped ≡ is_some n.gaps

-- totals under keys of the layout, in ascending order
pub record IsNoted (layout : Layout) (s : Sum) : Type 0 where
  pub layout_is : s.totals.layout ≡ layout
  pub records : AllByRecursion (IsRecordUnder layout) s.totals.entries
  pub ascend : KeysAscendBehind None s.totals.entries
  pub count : length s.totals.entries < 2 ^ 64
  pub unassigned : s.totals.unassigned < 2 ^ 64
  pub notes_are : AreNotes s.notes

-- no line has more than 4,096 bytes
abbrev pub HasShortLines : List ℕ → Type 0
HasShortLines text = AllByRecursion (λ l. length l.0 ≤ line_length_limit) (text_lines text)
