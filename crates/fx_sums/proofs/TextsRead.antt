-- Texts of totals and notes are read as they are.
use Rattle.std.proofs.Common.{◌≡◌, ℕ, zero, suc, ◌<◌, ◌≤◌, Bool, true, not, ◌||◌, arith, List, [], ◌∷◌, ◌++◌, length, Option, Some, None, Ok, IfSome, is_some, refl, ap, sym, ◌∙◌, subst, ne_eqb, le-ltb, append_assoc, codes}
use Rattle.std.specs.Fmt.{decimal}
use Rattle.std.specs.List.{AllByRecursion}
use Rattle.fx_base.specs.Lines.{text_lines, next_number}
use Rattle.fx_elements.proofs.Addresses.{Avoids}
use Rattle.fx_layout.specs.Keys.{Layout, IsLayout, HasBits}
use Rattle.fx_tables.specs.declared.record.Record.{Record}
use Rattle.fx_collect.specs.Totals.{Totals, with_record, with_records}
use Rattle.fx_collect.specs.Report.{record_line, record_lines, number_line}
use Rattle.fx_sums.specs.declared.notes.Notes.{Notes}
use Rattle.fx_sums.specs.declared.notes.SkippedFrames.{SkippedFrames}
use Rattle.fx_sums.specs.declared.note.Note.{Note}
use Rattle.fx_sums.specs.declared.note.Note.TheVariants.{Complete, Frames, Gaps, Skipped}
use Rattle.fx_sums.specs.Sums.{Sum, plus, plus_all, no_notes}
use Rattle.fx_sums.specs.SumText.{complete_text, frames_text, number_text, notes_text, noted_text, noted_texts, KeysAscendBehind, IsRecordUnder, AreNotes, IsNoted, HasShortLines}
use Rattle.fx_sums.specs.SumLines.{number_behind, record_of, record_behind, with_note, notes_with, are_whole, line_behind}
use Rattle.fx_sums.specs.SumReading.{SumLine, Next, bytes_of, in_line, tallied, totals_with, notes_first, sum_with, texts_up_to, sum_of_texts}
use Rattle.fx_sums.proofs.LinesFound.{IsNumber, IsNote, note_text, note_line, record_text}
use Rattle.fx_sums.proofs.LinesRead.{written, number_read, number_line_plain, key_line, key_plain, record_read, behind_read, note_bytes, note_plain, note_no_keys, note_read}
use Rattle.fx_sums.proofs.Fewer.{lines_behind, one_fewer, text_fewer}
use Rattle.fx_sums.proofs.TextsFound.{layout_stays}

-- ---- a line

-- a line that a line feed ends, in front of others
first_line_is : (line rest : List ℕ) → Avoids 10 line → text_lines ((line ++ 10 ∷ []) ++ rest) ≡ (line, true)
    ∷ text_lines rest
first_line_is [] rest h = refl
first_line_is (b ∷ bs) rest h = rw (ne_eqb b 10 h.0, first_line_is bs rest h.1) refl

abbrev Fits : List SumLine → Type 0
Fits ls = AllByRecursion (λ l. length l.0 ≤ 4096) ls

module _ (line rest : List ℕ) (plain : Avoids 10 line) (short : HasShortLines ((line ++ 10 ∷ []) ++ rest)) where
  fits : Fits ((line, true) ∷ text_lines rest)
  fits = subst Fits (first_line_is line rest plain) short

  pub short_behind : HasShortLines rest
  short_behind = fits.1

  pub bytes_read : (n : ℕ) → bytes_of n (line, true) ≡ Ok line
  bytes_read n = rw (le-ltb 4096 (length line) fits.0) refl

  pub line_read : {A : Type 0} (read : List ℕ → Option A) (x : A) (n : ℕ) → read line ≡ Some x
      → in_line read (n, text_lines ((line ++ 10 ∷ []) ++ rest)) ≡ Ok (x, (next_number n, text_lines rest))
  line_read read x n is = rw (first_line_is line rest plain, le-ltb 4096 (length line) fits.0, is) refl

-- ---- the lines of keys

-- so many lines on
lines_on : ℕ → ℕ → ℕ
lines_on zero n = n
lines_on (suc k) n = lines_on k (next_number n)

record IsTallied (layout : Layout) (rs : List Record) (last : Option (List ℕ)) (t : Totals) (rest : List ℕ) (n : ℕ) :
    Type 0 where
  number : ℕ
  reads : tallied layout (length rs) last t (n, text_lines (record_lines rs ++ rest))
      ≡ Ok (with_records t rs, (number, text_lines rest))
  short : HasShortLines rest

tallied_read : (layout : Layout) (rs : List Record) (last : Option (List ℕ)) (t : Totals) (rest : List ℕ) (n : ℕ)
    → IsLayout layout → AllByRecursion (IsRecordUnder layout) rs → KeysAscendBehind last rs
    → HasShortLines (record_lines rs ++ rest) → IsTallied layout rs last t rest n
tallied_read layout [] last t rest n is under ascend short = record { number = n; reads = refl; short = short }
tallied_read layout (r ∷ rs) last t rest n is under ascend short =
    let here = under.0 in
    let own : IsLayout r.key.layout = subst IsLayout (sym here.0) is in
    let bits : HasBits r.key.layout r.key.values = subst (λ (l : Layout). HasBits l r.key.values) (sym here.0) here.1 in
    let plain = key_plain r own bits here.2 in
    let says = subst (λ (l : Layout). record_of l (key_line r) ≡ Some r) here.0 (record_read r own bits here.2) in
    let reads = behind_read layout last (key_line r) r says ascend.0 in
    let behind = record_lines rs ++ rest in
    let text : (record_line r ++ record_lines rs) ++ rest ≡ (key_line r ++ 10 ∷ []) ++ behind =
    append_assoc (record_line r) (record_lines rs) rest
    ∙ ap (λ (x : List ℕ). x ++ behind) (sym (record_text r bits)) in
    let fine : HasShortLines ((key_line r ++ 10 ∷ []) ++ behind) = subst HasShortLines text short in
    let one = line_read (key_line r) behind plain fine (record_behind layout last) r n reads in
    let m = tallied_read layout rs (Some r.key.values) (with_record t r) rest (next_number n) is under.1 ascend.1
    (short_behind (key_line r) behind plain fine) in
    record {
      number = m.number;
      reads = ap (λ (x : List ℕ). tallied layout (suc (length rs)) last t (n, text_lines x)) text ∙ rw one m.reads;
      short = m.short;
    }

-- ---- notes

abbrev NotesGo : Notes → ℕ → List ℕ → Notes → List ℕ → Type 0
NotesGo n k text m rest = (j : ℕ) × (notes_first n k (text_lines text) ≡ notes_first m j (text_lines rest))
    × HasShortLines rest

one_note : (n : Notes) (note : Note) (m : Notes) (k : ℕ) (rest : List ℕ) → IsNote note → with_note n note ≡ Some m
    → HasShortLines (note_text note ++ rest) → NotesGo n k (note_text note ++ rest) m rest
unfolding line_behind notes_with
one_note n note m k rest is fits short =
    let line = note_bytes note in
    let text : note_text note ++ rest ≡ (line ++ 10 ∷ []) ++ rest =
    ap (λ (x : List ℕ). x ++ rest) (sym (note_line note)) in
    let fine : HasShortLines ((line ++ 10 ∷ []) ++ rest) = subst HasShortLines text short in
    let plain = note_plain note is in
    let bytes = bytes_read line rest plain fine (next_number k) in (
      next_number k,
      ap (λ (x : List ℕ). notes_first n k (text_lines x)) text
          ∙ ap (λ (ls : List SumLine). notes_first n k ls) (first_line_is line rest plain)
          ∙ rw (bytes, note_no_keys note is, note_read note is, fits) refl,
      short_behind line rest plain fine,
    )

abbrev so_far : Option Bool → Option SkippedFrames → Option ℕ → Option ℕ → Notes
so_far c f g s = record { complete = c; frames = f; gaps = g; skipped = s }

complete_on : (c : Option Bool) (k : ℕ) (rest : List ℕ) → HasShortLines (complete_text c ++ rest)
    → NotesGo no_notes k (complete_text c ++ rest) (so_far c None None None) rest
complete_on None k rest short = (k, refl, short)
complete_on (Some whole) k rest short =
    one_note no_notes (Complete whole) (so_far (Some whole) None None None) k rest tt refl short

frames_on : (c : Option Bool) (f : Option SkippedFrames) (k : ℕ) (rest : List ℕ)
    → IfSome f (λ x. IsNumber x.other × IsNumber x.malformed) → HasShortLines (frames_text f ++ rest)
    → NotesGo (so_far c None None None) k (frames_text f ++ rest) (so_far c f None None) rest
frames_on c None k rest h short = (k, refl, short)
frames_on c (Some f) k rest h short = one_note (so_far c None None None) (Frames f) (so_far c (Some f) None None) k rest
    h refl short

abbrev stream_text : Option ℕ → Option ℕ → List ℕ → List ℕ
stream_text g s rest = number_text (codes "gaps ") g ++ (number_text (codes "skipped ") s ++ rest)

stream_on : (c : Option Bool) (f : Option SkippedFrames) (g s : Option ℕ) (k : ℕ) (rest : List ℕ) → IfSome g IsNumber
    → IfSome s IsNumber → is_some s ≡ is_some g → HasShortLines (stream_text g s rest)
    → NotesGo (so_far c f None None) k (stream_text g s rest) (so_far c f g s) rest
stream_on c f None None k rest hg hs e short = (k, refl, short)
stream_on c f None (Some s) k rest hg hs e short = absurd cc
stream_on c f (Some g) None k rest hg hs e short = absurd cc
stream_on c f (Some g) (Some s) k rest hg hs e short =
    let last = number_line (codes "skipped ") s in
    let one = one_note (so_far c f None None) (Gaps g) (so_far c f (Some g) None) k (last ++ rest) hg refl short in
    let two = one_note (so_far c f (Some g) None) (Skipped s) (so_far c f (Some g) (Some s)) one.0 rest hs refl one.2 in
    (two.0, one.1 ∙ two.1, two.2)

-- the notes in order, with what is behind them
notes_parts : (m : Notes) (rest : List ℕ) → notes_text m ++ rest ≡ complete_text m.complete
    ++ (frames_text m.frames ++ stream_text m.gaps m.skipped rest)
notes_parts m rest =
    let complete = complete_text m.complete in
    let frames = frames_text m.frames in
    let gaps = number_text (codes "gaps ") m.gaps in
    let skipped = number_text (codes "skipped ") m.skipped in
    append_assoc complete (frames ++ (gaps ++ skipped)) rest
    ∙ ap (λ (x : List ℕ). complete ++ x) (append_assoc frames (gaps ++ skipped) rest)
    ∙ ap (λ (x : List ℕ). complete ++ (frames ++ x)) (append_assoc gaps skipped rest)

notes_read : (m : Notes) (k : ℕ) (rest : List ℕ) → AreNotes m → HasShortLines (notes_text m ++ rest)
    → NotesGo no_notes k (notes_text m ++ rest) m rest
notes_read m k rest are short =
    let text = notes_parts m rest in
    let behind = stream_text m.gaps m.skipped rest in
    let one = complete_on m.complete k (frames_text m.frames ++ behind) (subst HasShortLines text short) in
    let two = frames_on m.complete m.frames one.0 behind are.frames one.2 in
    let three = stream_on m.complete m.frames m.gaps m.skipped two.0 rest are.gaps are.skipped are.together two.2 in
    (three.0, ap (λ (x : List ℕ). notes_first no_notes k (text_lines x)) text ∙ (one.1 ∙ (two.1 ∙ three.1)), three.2)

whole_is : (g s : Option ℕ) → is_some s ≡ is_some g → (not (is_some g) || is_some s) ≡ true
whole_is None s e = refl
whole_is (Some g) None e = absurd cc
whole_is (Some g) (Some s) e = refl

-- ---- a text

-- the first line of a text, and what is behind it
abbrev first_of : Sum → List ℕ
first_of t = codes "keys" ++ 32 ∷ decimal (length t.totals.entries)

abbrev body_of : Sum → List ℕ
body_of t = record_lines t.totals.entries
    ++ (number_line (codes "unassigned ") t.totals.unassigned ++ notes_text t.notes)

parts_of : (t : Sum) (rest : List ℕ) → noted_text t ++ rest ≡ (first_of t ++ 10 ∷ []) ++ (body_of t ++ rest)
parts_of t rest =
    let kline = number_line (codes "keys ") (length t.totals.entries) in
    let uline = number_line (codes "unassigned ") t.totals.unassigned in
    let lines = record_lines t.totals.entries in
    let notes = notes_text t.notes in
    let text : noted_text t ≡ kline ++ (lines ++ (uline ++ notes)) = append_assoc kline (lines ++ uline) notes
    ∙ ap (λ (x : List ℕ). kline ++ x) (append_assoc lines uline notes) in
    ap (λ (x : List ℕ). x ++ rest) text ∙ append_assoc kline (body_of t) rest

-- where a text ends that these are behind
abbrev next_of : List Sum → ℕ → Next
next_of [] n = None
next_of (t ∷ ts) n = Some (length t.totals.entries, (next_number n, text_lines (body_of t ++ noted_texts ts)))

module _ (t : Sum) (rest : List ℕ) (few : IsNumber (length t.totals.entries))
    (short : HasShortLines (noted_text t ++ rest)) where
  first_plain : Avoids 10 (first_of t)
  first_plain = number_line_plain (codes "keys") (length t.totals.entries) (written 10 (codes "keys") refl) few

  fine : HasShortLines ((first_of t ++ 10 ∷ []) ++ (body_of t ++ rest))
  fine = subst HasShortLines (parts_of t rest) short

  body_short : HasShortLines (body_of t ++ rest)
  body_short = short_behind (first_of t) (body_of t ++ rest) first_plain fine

  first_says : number_behind (codes "keys") (first_of t) ≡ Some (length t.totals.entries)
  first_says = number_read (codes "keys") (length t.totals.entries) (written 32 (codes "keys") refl) few

  first_read : (n : ℕ) → in_line (number_behind (codes "keys")) (n, text_lines (noted_text t ++ rest))
      ≡ Ok (length t.totals.entries, (next_number n, text_lines (body_of t ++ rest)))
  first_read n =
      ap (λ (x : List ℕ). in_line (number_behind (codes "keys")) (n, text_lines x)) (parts_of t rest)
      ∙ line_read (first_of t) (body_of t ++ rest) first_plain fine (number_behind (codes "keys"))
      (length t.totals.entries) n first_says

  next_read : (m : Notes) (j : ℕ) → are_whole m ≡ true → notes_first m j (text_lines (noted_text t ++ rest))
      ≡ Ok (m, Some (length t.totals.entries, (next_number j, text_lines (body_of t ++ rest))))
  unfolding line_behind
  next_read m j whole =
      let bytes = bytes_read (first_of t) (body_of t ++ rest) first_plain fine (next_number j) in
      ap (λ (x : List ℕ). notes_first m j (text_lines x)) (parts_of t rest)
      ∙ ap (λ (ls : List SumLine). notes_first m j ls) (first_line_is (first_of t) (body_of t ++ rest) first_plain)
      ∙ rw (bytes, first_says, whole) refl

abbrev AreNoted : Layout → List Sum → Type 0
AreNoted layout ts = AllByRecursion (IsNoted layout) ts

ends_read : (layout : Layout) (ts : List Sum) (m : Notes) (j : ℕ) → AreNotes m → AreNoted layout ts
    → HasShortLines (noted_texts ts) → notes_first m j (text_lines (noted_texts ts)) ≡ Ok (m, next_of ts j)
ends_read layout [] m j are noted short = rw (whole_is m.gaps m.skipped are.together) refl
ends_read layout (t ∷ ts) m j are noted short =
    next_read t (noted_texts ts) noted.0.count short m j (whole_is m.gaps m.skipped are.together)

record IsText (s t : Sum) (ts : List Sum) (n : ℕ) : Type 0 where
  number : ℕ
  reads : sum_with (length t.totals.entries) s (n, text_lines (body_of t ++ noted_texts ts))
      ≡ Ok (plus s t, next_of ts number)
  short : HasShortLines (noted_texts ts)

text_read : (s t : Sum) (ts : List Sum) (n : ℕ) → IsLayout s.totals.layout → IsNoted s.totals.layout t
    → AreNoted s.totals.layout ts → HasShortLines (body_of t ++ noted_texts ts) → IsText s t ts n
unfolding sum_with totals_with
text_read s t ts n is noted others short =
    let u = t.totals in
    let lines = record_lines u.entries in
    let uline = number_line (codes "unassigned ") u.unassigned in
    let notes = notes_text t.notes in
    let rest = noted_texts ts in
    let last = codes "unassigned" ++ 32 ∷ decimal u.unassigned in
    let text : body_of t ++ rest ≡ lines ++ (uline ++ (notes ++ rest)) = append_assoc lines (uline ++ notes) rest
    ∙ ap (λ (x : List ℕ). lines ++ x) (append_assoc uline notes rest) in
    let m = tallied_read s.totals.layout u.entries None s.totals (uline ++ (notes ++ rest)) n is noted.records
    noted.ascend (subst HasShortLines text short) in
    let last_plain = number_line_plain (codes "unassigned") u.unassigned (written 10 (codes "unassigned") refl)
    noted.unassigned in
    let end = line_read last (notes ++ rest) last_plain m.short (number_behind (codes "unassigned")) u.unassigned
    m.number (number_read (codes "unassigned") u.unassigned (written 32 (codes "unassigned") refl) noted.unassigned)
    in
    let noting = notes_read t.notes (next_number m.number) rest noted.notes_are
    (short_behind last (notes ++ rest) last_plain m.short) in
    let ending = ends_read s.totals.layout ts t.notes noting.0 noted.notes_are others noting.2 in
    record {
      number = noting.0;
      reads = ap (λ (x : List ℕ). sum_with (length u.entries) s (n, text_lines x)) text
          ∙ rw (m.reads, end, noting.1, ending) refl;
      short = noting.2;
    }

-- ---- texts

each_read : (ts : List Sum) (s : Sum) (n most : ℕ) → IsLayout s.totals.layout → AreNoted s.totals.layout ts
    → HasShortLines (noted_texts ts) → lines_behind (next_of ts n) < most → texts_up_to s (next_of ts n) most
    ≡ Ok (plus_all s ts)
each_read [] s n most is noted short some = refl
each_read (t ∷ ts) s n zero is noted short some = absurd (omega arith)
each_read (t ∷ ts) s n (suc most) is noted short some =
    let one = text_read s t ts (next_number n) is noted.0 noted.1 (body_short t (noted_texts ts) noted.0.count short) in
    let fewer = text_fewer (length t.totals.entries) s (next_number n, text_lines (body_of t ++ noted_texts ts))
    (plus s t, next_of ts one.number) one.reads in
    let own = sym (layout_stays s t) in
    let rest = each_read ts (plus s t) one.number most (subst IsLayout own is)
    (subst (λ (l : Layout). AreNoted l ts) own noted.1) one.short (omega (arith, fewer, some)) in
    rw one.reads rest

pub texts_read : (s t : Sum) (ts : List Sum) (n : ℕ) → IsLayout s.totals.layout
    → AllByRecursion (IsNoted s.totals.layout) (t ∷ ts) → HasShortLines (noted_texts (t ∷ ts))
    → sum_of_texts s (n, text_lines (noted_texts (t ∷ ts))) ≡ Ok (plus_all s (t ∷ ts))
unfolding sum_of_texts
texts_read s t ts n is noted short =
    let first = first_read t (noted_texts ts) noted.0.count short n in
    let fewer = one_fewer (number_behind (codes "keys")) (n, text_lines (noted_texts (t ∷ ts)))
    (length t.totals.entries, (next_number n, text_lines (body_of t ++ noted_texts ts))) first in
    rw first (each_read (t ∷ ts) s n (length (text_lines (noted_texts (t ∷ ts)))) is noted short fewer)
