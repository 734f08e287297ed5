-- What a line of totals says.
use Rattle.std.specs.Prelude.{ℕ, ◌-◌, ◌%◌, ◌^◌, ◌==◌, ◌&&◌, ◌||◌, not, nat_lt, Bool, true, false, is_some, if◌then◌else◌, List, [], ◌∷◌, map, codes, Option, Some, None}
use Rattle.std.specs.Option.{option_map}
use Rattle.std.specs.Str.{bytes_eq}
use Rattle.fx_base.specs.declared.counts.Counts.{Counts}
use Rattle.fx_elements.specs.Axes.{Fields, field, axis_width}
use Rattle.fx_elements.specs.Spelling.{◌>>=◌, largest, number_of, cut_at}
use Rattle.fx_elements.specs.Values.{written_on}
use Rattle.fx_elements.specs.Words.{Words, words, in_first, first_word, number_first, none_left}
use Rattle.fx_layout.specs.declared.layout.Part.{Part}
use Rattle.fx_layout.specs.Keys.{Layout, leading_bits}
use Rattle.fx_tables.specs.declared.record.Record.{Record}
use Rattle.fx_sums.specs.declared.notes.Notes.{Notes}
use Rattle.fx_sums.specs.declared.note.Note.{Note}
use Rattle.fx_sums.specs.declared.note.Note.TheVariants.{Complete, Frames, Gaps, Skipped}
use Rattle.fx_sums.specs.declared.line_behind.LineBehind.{LineBehind}
use Rattle.fx_sums.specs.declared.line_behind.LineBehind.TheVariants as behind
use Rattle.fx_sums.specs.SumText.{comes_behind}

-- ---- words

-- the value, if no words are left
abbrev pub at_end : {A : Type 0} → A → Words → Option A
at_end x ws = if none_left ws then Some x else None

-- the words after this one
abbrev pub word_first : List ℕ → Words → Option Words
word_first word ws = first_word ws >>= λ w. if bytes_eq w.0 word then Some w.1 else None

-- the number of which these words consist
abbrev pub last_number : Words → Option ℕ
last_number ws = number_first ws >>= λ n. at_end n.0 n.1

-- ---- a line of a word and a number

unfoldable pub number_behind : List ℕ → List ℕ → Option ℕ
number_behind word line = do
  behind ← word_first word (words line)
  last_number behind

-- ---- the line for a key

-- a value that is zero after its leading bits
abbrev pub that_begins : ℕ → ℕ → Option ℕ
that_begins size value = if value % size == 0 then Some value else None

-- an address followed by this number of leading bits
unfoldable pub prefix_start : Part → List ℕ → Option ℕ
prefix_start part word = do
  p ← cut_at 47 word
  bits ← number_of largest p.1
  value ← written_on part.axis p.0
  if bits == part.bits then that_begins (2 ^ (axis_width part.axis - part.bits)) value else None

-- the first value with the leading bits that the word spells
abbrev pub start_of : Part → List ℕ → Option ℕ
start_of part word = if nat_lt part.bits (axis_width part.axis) then prefix_start part word else written_on part.axis
    word

-- a value for each part, and the remaining words
unfoldable pub values_first : Layout → Words → Option (List ℕ × Words)
values_first [] ws = Some ([], ws)
values_first (part ∷ parts) ws = do
  start ← in_first (start_of part) ws
  values ← values_first parts start.1
  Some (leading_bits (axis_width part.axis) part.bits start.0 ∷ values.0, values.1)

-- the values of fields for each part
abbrev pub values_under : Layout → Fields → List ℕ
values_under parts fields = map (λ part. leading_bits (axis_width part.axis) part.bits (field fields part.axis)) parts

-- the values of a key; a key without parts is `all`
abbrev pub key_first : Layout → Words → Option (List ℕ × Words)
key_first [] ws = option_map (λ ws. ([], ws)) (word_first (codes "all") ws)
key_first (part ∷ parts) ws = values_first (part ∷ parts) ws

-- the counts of which these words consist
unfoldable pub counts_of : Words → Option Counts
counts_of ws = do
  ws ← word_first (codes "packets") ws
  packets ← number_first ws
  ws ← word_first (codes "octets") packets.1
  octets ← last_number ws
  Some (record { packets = packets.0; octets = octets })

unfoldable pub record_of : Layout → List ℕ → Option Record
record_of layout line = do
  values ← key_first layout (words line)
  counts ← counts_of values.1
  Some (record { key = record { layout = layout; values = values.0 }; counts = counts })

-- the record of a line, if its key is after the last one
unfoldable pub record_behind : Layout → Option (List ℕ) → List ℕ → Option Record
record_behind layout last line = do
  r ← record_of layout line
  if comes_behind last r.key.values then Some r else None

-- ---- a note

unfoldable pub complete_of : Words → Option Note
complete_of ws = do
  w ← first_word ws
  if bytes_eq w.0 (codes "yes") then at_end (Complete true) w.1 else if bytes_eq w.0 (codes "no") then at_end
      (Complete false) w.1 else None

unfoldable pub frames_of : Words → Option Note
frames_of ws = do
  other ← number_first ws
  ws ← word_first (codes "malformed") other.1
  malformed ← last_number ws
  Some (Frames (record { other = other.0; malformed = malformed }))

-- skipped frames of a capture, or skipped records of a stream
unfoldable pub skipped_of : Words → Option Note
skipped_of ws = do
  w ← first_word ws
  if bytes_eq w.0 (codes "other") then frames_of w.1 else (number_of largest w.0 >>= λ n. at_end (Skipped n) w.1)

unfoldable pub note_of_kind : List ℕ → Words → Option Note
note_of_kind kind ws =
    if bytes_eq kind (codes "complete") then complete_of ws
    else if bytes_eq kind (codes "skipped") then skipped_of ws
    else if bytes_eq kind (codes "gaps") then option_map (λ n. Gaps n) (last_number ws)
    else None

unfoldable pub note_of : List ℕ → Option Note
note_of line = do
  kind ← first_word (words line)
  note_of_kind kind.0 kind.1

-- the notes with another one appended: first whether a run was complete, then frames, gaps and skipped records
abbrev pub with_note : Notes → Note → Option Notes
with_note n (Complete whole) =
    if is_some n.complete || is_some n.frames || is_some n.gaps then None else Some (record n { complete = Some whole })
with_note n (Frames frames) = if is_some n.frames || is_some n.gaps then None
    else Some (record n { frames = Some frames })
with_note n (Gaps gaps) = if is_some n.gaps then None else Some (record n { gaps = Some gaps })
with_note n (Skipped skipped) = if is_some n.gaps && not (is_some n.skipped)
    then Some (record n { skipped = Some skipped }) else None

-- the notes with that of a line appended
unfoldable pub notes_with : Notes → List ℕ → Option Notes
notes_with notes line = note_of line >>= λ note. with_note notes note

-- gaps occur only together with skipped records
abbrev pub are_whole : Notes → Bool
are_whole n = not (is_some n.gaps) || is_some n.skipped

-- ---- after notes

-- if a line gives the number of keys of the next text, the notes must be whole
abbrev pub notes_or_keys : Notes → List ℕ → Option ℕ → Option LineBehind
notes_or_keys notes line (Some keys) = if are_whole notes then Some (behind.Keys keys) else None
notes_or_keys notes line None = option_map (λ more. behind.Notes more) (notes_with notes line)

-- the notes with that of a line appended, or the number of keys of the text that begins at the line
unfoldable pub line_behind : Notes → List ℕ → Option LineBehind
line_behind notes line = notes_or_keys notes line (number_behind (codes "keys") line)
