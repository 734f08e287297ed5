-- A text that is read as totals and notes is their text.
use Rattle.std.proofs.Common.{◌≡◌, ℕ, zero, suc, ◌^◌, ◌<◌, Bool, true, false, cond, eqb, ◌||◌, ◌&&◌, not, List, [], ◌∷◌, ◌++◌, length, Option, Some, None, Ok, IfSome, is_some, refl, ap, ap₂, sym, ◌∙◌, subst, eqb-true, inl, inr, append_assoc, codes}
use Rattle.std.specs.Prelude.{flat_map, nat_lt}
use Rattle.std.specs.Fmt.{decimal}
use Rattle.std.specs.Option.{option_map}
use Rattle.std.specs.List.{AllByRecursion}
use Rattle.std.proofs.lemmas.List.{append-nil}
use Rattle.fx_base.specs.Lines.{text_lines, begin_line, next_number}
use Rattle.fx_elements.proofs.Cuts.{chosen}
use Rattle.fx_elements.proofs.Addresses.{by_some, some_is}
use Rattle.fx_layout.specs.Keys.{Layout, IsLayout}
use Rattle.fx_tables.specs.declared.record.Record.{Record}
use Rattle.fx_collect.specs.Totals.{Totals, with_record, with_records, with_unassigned}
use Rattle.fx_collect.specs.Report.{record_line, record_lines, number_line, totals_text}
use Rattle.fx_sums.specs.declared.notes.Notes.{Notes}
use Rattle.fx_sums.specs.declared.notes.SkippedFrames.{SkippedFrames}
use Rattle.fx_sums.specs.declared.note.Note.{Note}
use Rattle.fx_sums.specs.declared.note.Note.TheVariants.{Complete, Frames, Gaps, Skipped}
use Rattle.fx_sums.specs.declared.line_behind.LineBehind.{LineBehind}
use Rattle.fx_sums.specs.declared.line_behind.LineBehind.TheVariants as behind
use Rattle.fx_sums.specs.Sums.{Sum, plus, plus_all, plus_notes, no_notes}
use Rattle.fx_sums.specs.SumText.{complete_text, frames_text, number_text, notes_text, noted_text, noted_texts, KeysAscendBehind, IsRecordUnder, AreNotes, IsNoted}
use Rattle.fx_sums.specs.SumLines.{number_behind, record_behind, note_of, with_note, notes_with, are_whole, notes_or_keys, line_behind}
use Rattle.fx_sums.specs.SumReading.{SumLine, Rest, Next, bytes_of, formed, next_line, in_line, tallied, totals_with, on_or_next, notes_first, notes_of, sum_with, texts_up_to, sum_of_texts}
use Rattle.fx_sums.proofs.Fewer.{ok_is, by_ok}
use Rattle.fx_sums.proofs.SumsOfParts.{layouts_kept}
use Rattle.fx_sums.proofs.LinesFound.{IsNumber, number_line_found, record_found, behind_found, note_text, IsNote, note_found}

-- ---- the text of lines

-- a line, with its line feed where it has one
abbrev pub line_text : SumLine → List ℕ
line_text l = l.0 ++ cond l.1 (10 ∷ []) []

abbrev pub text_of : List SumLine → List ℕ
text_of ls = flat_map line_text ls

begun : (b : ℕ) (ls : List SumLine) → text_of (begin_line b ls) ≡ b ∷ text_of ls
begun b [] = refl
begun b (l ∷ ls) = refl

pub text_back : (text : List ℕ) → text_of (text_lines text) ≡ text
text_back [] = refl
text_back (b ∷ bs) = by_feed (eqb b 10) refl (text_back bs) where
  by_feed : (t : Bool) → eqb b 10 ≡ t → text_of (text_lines bs) ≡ bs
      → text_of (cond t (([], true) ∷ text_lines bs) (begin_line b (text_lines bs))) ≡ b ∷ bs
  by_feed true e h = rw (eqb-true b 10 e) (ap (λ (x : List ℕ). 10 ∷ x) h)
  by_feed false e h = begun b (text_lines bs) ∙ ap (λ (x : List ℕ). b ∷ x) h

-- ---- a line

bytes_found : (n : ℕ) (l : SumLine) (line : List ℕ) → bytes_of n l ≡ Ok line → line_text l ≡ line ++ 10 ∷ []
bytes_found n l line e =
    elim (chosen (nat_lt 4096 (length l.0)) _ _ (Ok line) e) [
      | inl h ↦ absurd cc
      | inr h ↦ elim (chosen l.1 (Ok l.0) _ (Ok line) h.1) [
        | inl i ↦ let k : l.0 ≡ line = ok_is i.1 in rw (i.0, k) refl
        | inr i ↦ absurd cc
      ]
    ]

-- the text of a line, and that of the lines behind it
abbrev IsLineBefore : List SumLine → List ℕ → List SumLine → Type 0
IsLineBefore ls line rest = text_of ls ≡ (line ++ 10 ∷ []) ++ text_of rest

next_found : (n : ℕ) (ls : List SumLine) (q : List ℕ × Rest) → next_line (n, ls) ≡ Ok q → IsLineBefore ls q.0 q.1.1
next_found n [] q e = absurd cc
next_found n (l ∷ ls) q e =
    by_ok (bytes_of (next_number n) l) _ q e (λ line pl el.
    let k : (line, (next_number n, ls)) ≡ q = ok_is el in
    subst (λ (q : List ℕ × Rest). IsLineBefore (l ∷ ls) q.0 q.1.1) k
    (ap (λ (x : List ℕ). x ++ text_of ls) (bytes_found (next_number n) l line pl)))

formed_found : {A : Type 0} (n : ℕ) (o : Option A) (x : A) → formed n o ≡ Ok x → o ≡ Some x
formed_found n None x e = absurd cc
formed_found n (Some y) x e = ap (λ (z : _). Some z) (ok_is e)

-- what was read in the next line
line_found : {A : Type 0} (read : List ℕ → Option A) (rest : Rest) (r : A × Rest) → in_line read rest ≡ Ok r
    → (line : List ℕ) × IsLineBefore rest.1 line r.1.1 × (read line ≡ Some r.0)
line_found read (n, ls) r e =
    by_ok (next_line (n, ls)) _ r e (λ q pq eq.
    by_ok (formed q.1.0 (read q.0)) _ r eq (λ x px ex.
    let k : (x, q.1) ≡ r = ok_is ex in
    subst (λ (r : _ × Rest). (line : List ℕ) × IsLineBefore ls line r.1.1 × (read line ≡ Some r.0)) k
    (q.0, next_found n ls q pq, formed_found q.1.0 (read q.0) x px)))

-- ---- totals

record Tallied (layout : Layout) (count : ℕ) (last : Option (List ℕ)) (t : Totals) (ls : List SumLine)
    (r : Totals × Rest) : Type 0 where
  rs : List Record
  many : length rs ≡ count
  text : text_of ls ≡ record_lines rs ++ text_of r.1.1
  under : AllByRecursion (IsRecordUnder layout) rs
  ascend : KeysAscendBehind last rs
  total : r.0 ≡ with_records t rs

tallied_found : (layout : Layout) (count : ℕ) (last : Option (List ℕ)) (t : Totals) (rest : Rest) (r : Totals × Rest)
    → IsLayout layout → tallied layout count last t rest ≡ Ok r → Tallied layout count last t rest.1 r
tallied_found layout zero last t rest r is e =
    let k : (t, rest) ≡ r = ok_is e in
    subst (λ (r : Totals × Rest). Tallied layout zero last t rest.1 r) k
    (record { rs = []; many = refl; text = refl; under = tt; ascend = tt; total = refl })
tallied_found layout (suc count) last t rest r is e =
    by_ok (in_line (record_behind layout last) rest) _ r e (λ one pone more.
    let line = line_found (record_behind layout last) rest one pone in
    let read = behind_found layout last line.0 one.0 line.2 in
    let found = record_found layout line.0 one.0 is read.0 in
    let m = tallied_found layout count (Some one.0.key.values) (with_record t one.0) one.1 r is more in
    record {
      rs = one.0 ∷ m.rs;
      many = ap suc m.many;
      text = line.1 ∙ ap₂ (λ (x y : List ℕ). x ++ y) found.0 m.text
          ∙ sym (append_assoc (record_line one.0) (record_lines m.rs) (text_of r.1.1));
      under = (found.1, m.under);
      ascend = (read.1, m.ascend);
      total = m.total;
    })

-- the totals that were read
record TotalsRead (layout : Layout) (keys : ℕ) (t : Totals) (ls : List SumLine) (r : Totals × Rest) : Type 0 where
  rs : List Record
  unassigned : ℕ
  many : length rs ≡ keys
  text : text_of ls ≡ (record_lines rs ++ number_line (codes "unassigned ") unassigned) ++ text_of r.1.1
  under : AllByRecursion (IsRecordUnder layout) rs
  ascend : KeysAscendBehind None rs
  small : unassigned < 2 ^ 64
  total : r.0 ≡ with_unassigned (with_records t rs) unassigned

totals_found : (layout : Layout) (keys : ℕ) (t : Totals) (rest : Rest) (r : Totals × Rest) → IsLayout layout
    → totals_with layout keys t rest ≡ Ok r → TotalsRead layout keys t rest.1 r
unfolding totals_with
totals_found layout keys t rest r is e =
    by_ok (tallied layout keys None t rest) _ r e (λ s ps es.
    by_ok (in_line (number_behind (codes "unassigned")) s.1) _ r es (λ u pu eu.
    let m = tallied_found layout keys None t rest s is ps in
    let last = line_found (number_behind (codes "unassigned")) s.1 u pu in
    let number = number_line_found (codes "unassigned") last.0 u.0 last.2 in
    whole s u m last.0 last.1 number.0 number.1 (ok_is eu))) where
      whole : (s : Totals × Rest) (u : ℕ × Rest) (m : Tallied layout keys None t rest.1 s) (last : List ℕ)
          → IsLineBefore s.1.1 last u.1.1 → last ≡ codes "unassigned" ++ 32 ∷ decimal u.0 → IsNumber u.0
          → (with_unassigned s.0 u.0, u.1) ≡ r → TotalsRead layout keys t rest.1 r
      whole s u m last end last_is small same =
          let uline = number_line (codes "unassigned ") u.0 in
          let two : last ++ 10 ∷ [] ≡ uline = ap (λ (x : List ℕ). x ++ 10 ∷ []) last_is in
          let text : text_of rest.1 ≡ record_lines m.rs ++ (uline ++ text_of u.1.1) = m.text
          ∙ ap (λ (y : List ℕ). record_lines m.rs ++ y) (end ∙ ap (λ (x : List ℕ). x ++ text_of u.1.1) two) in
          subst (λ (r : Totals × Rest). TotalsRead layout keys t rest.1 r) same (record {
            rs = m.rs;
            unassigned = u.0;
            many = m.many;
            text = text ∙ sym (append_assoc (record_lines m.rs) uline (text_of u.1.1));
            under = m.under;
            ascend = m.ascend;
            small = small;
            total = ap (λ (x : Totals). with_unassigned x u.0) m.total;
          })

-- ---- notes

-- notes so far: skipped records stand behind gaps
record SoFar (n : Notes) : Type 0 where
  frames : IfSome n.frames (λ f. IsNumber f.other × IsNumber f.malformed)
  gaps : IfSome n.gaps IsNumber
  skipped : IfSome n.skipped IsNumber
  behind : is_some n.gaps ≡ false → n.skipped ≡ None

nothing_there : {A : Type 0} (o : Option A) → is_some o ≡ false → o ≡ None
nothing_there None e = refl
nothing_there (Some x) e = absurd cc

either_not : (a b : Bool) → (a || b) ≡ false → (a ≡ false) × (b ≡ false)
either_not true b e = absurd cc
either_not false b e = (refl, e)

both_are : (a b : Bool) → (a && b) ≡ true → (a ≡ true) × (b ≡ true)
both_are true b e = (refl, e)
both_are false b e = absurd cc

not_false : (a : Bool) → not a ≡ true → a ≡ false
not_false true e = absurd cc
not_false false e = refl

abbrev More : Notes → Note → Notes → Type 0
More n note m = (notes_text m ≡ notes_text n ++ note_text note) × SoFar m

complete_more : (n : Notes) (whole : Bool) → n.complete ≡ None → n.frames ≡ None → n.gaps ≡ None → n.skipped ≡ None
    → More n (Complete whole) (record n { complete = Some whole })
complete_more n whole c f g s = (
  rw (c, f, g, s) (append-nil (complete_text (Some whole))),
  record { frames = rw f tt; gaps = rw g tt; skipped = rw s tt; behind = λ e. s },
)

frames_more : (n : Notes) (x : SkippedFrames) → IsNumber x.other × IsNumber x.malformed → n.frames ≡ None → n.gaps
    ≡ None → n.skipped ≡ None → More n (Frames x) (record n { frames = Some x })
frames_more n x h f g s =
    let text = complete_text n.complete in (
      rw (f, g, s) (ap (λ (y : List ℕ). text ++ y) (append-nil (frames_text (Some x)))
          ∙ sym (ap (λ (y : List ℕ). y ++ frames_text (Some x)) (append-nil text))),
      record { frames = h; gaps = rw g tt; skipped = rw s tt; behind = λ e. s },
    )

gaps_more : (n : Notes) (x : ℕ) → IsNumber x → SoFar n → n.gaps ≡ None → n.skipped ≡ None
    → More n (Gaps x) (record n { gaps = Some x })
gaps_more n x h so g s =
    let text = complete_text n.complete in
    let frames = frames_text n.frames in
    let gaps = number_line (codes "gaps ") x in (
      rw (g, s) (ap (λ (y : List ℕ). text ++ (frames ++ y)) (append-nil gaps) ∙ sym (append_assoc text frames gaps)
          ∙ sym (ap (λ (y : List ℕ). (text ++ y) ++ gaps) (append-nil frames))),
      record { frames = so.frames; gaps = h; skipped = rw s tt; behind = λ e. s },
    )

skipped_more : (n : Notes) (x : ℕ) → IsNumber x → SoFar n → is_some n.gaps ≡ true → n.skipped ≡ None
    → More n (Skipped x) (record n { skipped = Some x })
skipped_more n x h so g s =
    let text = complete_text n.complete in
    let frames = frames_text n.frames in
    let gaps = number_text (codes "gaps ") n.gaps in
    let skipped = number_line (codes "skipped ") x in (
      rw s (sym (append_assoc text (frames ++ (gaps ++ [])) skipped
          ∙ ap (λ (y : List ℕ). text ++ y) (append_assoc frames (gaps ++ []) skipped
          ∙ ap (λ (y : List ℕ). frames ++ (y ++ skipped)) (append-nil gaps)))),
      record { frames = so.frames; gaps = so.gaps; skipped = h; behind = λ e. absurd (cc) },
    )

note_more : (n : Notes) (note : Note) (m : Notes) → SoFar n → IsNote note → with_note n note ≡ Some m → More n note m
note_more n (Complete whole) m so is e =
    elim (chosen (is_some n.complete || is_some n.frames || is_some n.gaps) None _ (Some m) e) [
      | inl h ↦ absurd cc
      | inr h ↦
          let two = either_not (is_some n.complete || is_some n.frames) (is_some n.gaps) h.0 in
          let one = either_not (is_some n.complete) (is_some n.frames) two.0 in
          subst (λ (m : Notes). More n (Complete whole) m) (some_is h.1)
          (complete_more n whole (nothing_there n.complete one.0) (nothing_there n.frames one.1)
          (nothing_there n.gaps two.1) (so.behind two.1))
    ]
note_more n (Frames x) m so is e =
    elim (chosen (is_some n.frames || is_some n.gaps) None _ (Some m) e) [
      | inl h ↦ absurd cc
      | inr h ↦
          let two = either_not (is_some n.frames) (is_some n.gaps) h.0 in
          subst (λ (m : Notes). More n (Frames x) m) (some_is h.1)
          (frames_more n x is (nothing_there n.frames two.0) (nothing_there n.gaps two.1) (so.behind two.1))
    ]
note_more n (Gaps x) m so is e =
    elim (chosen (is_some n.gaps) None _ (Some m) e) [
      | inl h ↦ absurd cc
      | inr h ↦ subst (λ (m : Notes). More n (Gaps x) m) (some_is h.1)
          (gaps_more n x is so (nothing_there n.gaps h.0) (so.behind h.0))
    ]
note_more n (Skipped x) m so is e =
    elim (chosen (is_some n.gaps && not (is_some n.skipped)) _ None (Some m) e) [
      | inl h ↦
          let two = both_are (is_some n.gaps) (not (is_some n.skipped)) h.0 in
          subst (λ (m : Notes). More n (Skipped x) m) (some_is h.1)
          (skipped_more n x is so two.0 (nothing_there n.skipped (not_false (is_some n.skipped) two.1)))
      | inr h ↦ absurd cc
    ]

with_found : (n : Notes) (line : List ℕ) (m : Notes) → SoFar n → notes_with n line ≡ Some m
    → (notes_text m ≡ notes_text n ++ (line ++ 10 ∷ [])) × SoFar m
unfolding notes_with
with_found n line m so e =
    by_some (note_of line) _ m e (λ note pn en.
    let found = note_found line note pn in
    let more = note_more n note m so found.1 en in
    (more.0 ∙ ap (λ (x : List ℕ). notes_text n ++ x) (sym found.0), more.1))

whole_notes : (n : Notes) → SoFar n → are_whole n ≡ true → AreNotes n
whole_notes n so whole = record {
  frames = so.frames;
  gaps = so.gaps;
  skipped = so.skipped;
  together =
      same n.skipped n.gaps whole so.behind;
} where
  same : (s g : Option ℕ) → (not (is_some g) || is_some s) ≡ true → (is_some g ≡ false → s ≡ None) → is_some s
      ≡ is_some g
  same None None e h = refl
  same (Some x) None e h = absurd (let k = h refl in cc)
  same None (Some y) e h = absurd cc
  same (Some x) (Some y) e h = refl

-- what a line behind notes was read as
abbrev Said : Notes → List ℕ → LineBehind → Type 0
Said n line (behind.Notes more) = notes_with n line ≡ Some more
Said n line (behind.Keys keys) = (number_behind (codes "keys") line ≡ Some keys) × (are_whole n ≡ true)

said_found : (n : Notes) (line : List ℕ) (said : LineBehind) → line_behind n line ≡ Some said → Said n line said
unfolding line_behind
said_found n line said e = by_number (number_behind (codes "keys") line) refl e where
  by_notes : (o : Option Notes) → notes_with n line ≡ o → option_map (λ more. behind.Notes more) o ≡ Some said
      → Said n line said
  by_notes None p q = absurd cc
  by_notes (Some more) p q = subst (λ (said : LineBehind). Said n line said) (some_is q) p

  by_number : (o : Option ℕ) → number_behind (codes "keys") line ≡ o → notes_or_keys n line o ≡ Some said
      → Said n line said
  by_number None p q = by_notes (notes_with n line) refl q
  by_number (Some keys) p q =
      elim (chosen (are_whole n) (Some (behind.Keys keys)) None (Some said) q) [
        | inl h ↦ subst (λ (said : LineBehind). Said n line said) (some_is h.1) (p, h.0)
        | inr h ↦ absurd cc
      ]

-- the text that is left where a text ends
abbrev next_text : Next → List ℕ
next_text None = []
next_text (Some next) = number_line (codes "keys ") next.0 ++ text_of next.1.1

abbrev IsNext : Next → Type 0
IsNext None = Unit {0}
IsNext (Some next) = IsNumber next.0

abbrev NotesAre : Notes → List ℕ → Notes × Next → Type 0
NotesAre n text r = (notes_text r.0 ++ next_text r.1 ≡ notes_text n ++ text) × AreNotes r.0 × IsNext r.1

notes_found : (ls : List SumLine) (k : ℕ) (n : Notes) (r : Notes × Next) → SoFar n → notes_first n k ls ≡ Ok r
    → NotesAre n (text_of ls) r
notes_found [] k n r so e =
    elim (chosen (are_whole n) (Ok (n, None)) _ (Ok r) e) [
      | inl h ↦ subst (λ (r : Notes × Next). NotesAre n [] r) (ok_is h.1) (refl, whole_notes n so h.0, tt)
      | inr h ↦ absurd cc
    ]
notes_found (l ∷ ls) k n r so e =
    by_ok (bytes_of (next_number k) l) _ r e (λ line pl el.
    by_ok (formed (next_number k) (line_behind n line)) _ r el (λ said ps es.
    by_said line (bytes_found (next_number k) l line pl) (λ more so e. notes_found ls (next_number k) more r so e) said
    (said_found n line said (formed_found (next_number k) (line_behind n line) said ps)) es)) where
      by_said : (line : List ℕ) → line_text l ≡ line ++ 10 ∷ []
          → ((more : Notes) → SoFar more → notes_first more (next_number k) ls ≡ Ok r → NotesAre more (text_of ls) r)
          → (said : LineBehind) → Said n line said
          → on_or_next (λ more. notes_first more (next_number k) ls) n (next_number k, ls) said ≡ Ok r
          → NotesAre n (text_of (l ∷ ls)) r
      by_said line is on (behind.Notes more) p es =
          let one = with_found n line more so p in
          let rest = on more one.1 es in (
            rest.0 ∙ ap (λ (x : List ℕ). x ++ text_of ls) one.0
                ∙ append_assoc (notes_text n) (line ++ 10 ∷ []) (text_of ls)
                ∙ ap (λ (x : List ℕ). notes_text n ++ (x ++ text_of ls)) (sym is),
            rest.1,
            rest.2,
          )
      by_said line is on (behind.Keys keys) p es =
          let number = number_line_found (codes "keys") line keys p.0 in
          let first : line_text l ≡ number_line (codes "keys ") keys = is ∙ ap (λ (x : List ℕ). x ++ 10 ∷ []) number.0
          in
          subst (λ (r : Notes × Next). NotesAre n (text_of (l ∷ ls)) r) (ok_is es)
          (ap (λ (x : List ℕ). notes_text n ++ (x ++ text_of ls)) (sym first), whole_notes n so p.1, number.1)

-- ---- a text

record TextRead (keys : ℕ) (s : Sum) (ls : List SumLine) (r : Sum × Next) : Type 0 where
  t : Sum
  text : number_line (codes "keys ") keys ++ text_of ls ≡ noted_text t ++ next_text r.1
  noted : IsNoted s.totals.layout t
  total : r.0 ≡ plus s t
  next : IsNext r.1

text_found : (keys : ℕ) (s : Sum) (rest : Rest) (r : Sum × Next) → IsLayout s.totals.layout → IsNumber keys
    → sum_with keys s rest ≡ Ok r → TextRead keys s rest.1 r
unfolding sum_with
text_found keys s rest r is few e =
    by_ok (totals_with s.totals.layout keys s.totals rest) _ r e (λ t pt et.
    by_ok (notes_of t.1) _ r et (λ notes pn en.
    let totals = totals_found s.totals.layout keys s.totals rest t is pt in
    let found = notes_found t.1.1 t.1.0 no_notes notes
    (record { frames = tt; gaps = tt; skipped = tt; behind = λ h. refl }) pn in
    whole t notes totals found.0 found.1 found.2 (ok_is en))) where
      whole : (t : Totals × Rest) (notes : Notes × Next) (totals : TotalsRead s.totals.layout keys s.totals rest.1 t)
          → notes_text notes.0 ++ next_text notes.1 ≡ text_of t.1.1 → AreNotes notes.0 → IsNext notes.1
          → (record { totals = t.0; notes = plus_notes s.notes notes.0 }, notes.1) ≡ r → TextRead keys s rest.1 r
      whole t notes totals more fine next same =
          let read : Totals = record { layout = s.totals.layout; entries = totals.rs; unassigned = totals.unassigned }
          in
          let kline = number_line (codes "keys ") in
          let lines = record_lines totals.rs ++ number_line (codes "unassigned ") totals.unassigned in
          let left = notes_text notes.0 ++ next_text notes.1 in
          subst (λ (r : Sum × Next). TextRead keys s rest.1 r) same (record {
            t = record { totals = read; notes = notes.0 };
            text =
                ap₂ (λ (n : ℕ) (x : List ℕ). kline n ++ x) (sym totals.many)
                (totals.text ∙ ap (λ (x : List ℕ). lines ++ x) (sym more))
                ∙ sym (append_assoc (kline (length totals.rs)) lines left)
                ∙ sym (append_assoc (totals_text read) (notes_text notes.0) (next_text notes.1));
            noted = record {
              layout_is = refl;
              records = totals.under;
              ascend = totals.ascend;
              count =
                  subst IsNumber (sym totals.many) few;
              unassigned = totals.small;
              notes_are = fine;
            };
            total = ap (λ (x : Totals). record { totals = x; notes = plus_notes s.notes notes.0 }) totals.total;
            next = next;
          })

-- ---- texts

abbrev TextsAre : Layout → Sum → List ℕ → Sum → Type 0
TextsAre layout s text result = (ts : List Sum) × (text ≡ noted_texts ts) × AllByRecursion (IsNoted layout) ts
    × (result ≡ plus_all s ts)

-- a text more leaves the layout
pub layout_stays : (s t : Sum) → (plus s t).totals.layout ≡ s.totals.layout
layout_stays s t = layouts_kept s.totals t.totals.entries

each_found : (s result : Sum) (next : Next) (most : ℕ) → IsLayout s.totals.layout → IsNext next
    → texts_up_to s next most ≡ Ok result → TextsAre s.totals.layout s (next_text next) result
each_found s result None most is fine e = ([], refl, tt, sym (ok_is e))
each_found s result (Some next) zero is fine e = absurd cc
each_found s result (Some next) (suc most) is fine e =
    by_ok (sum_with next.0 s next.1) _ result e (λ r pr er.
    let one = text_found next.0 s next.1 r is fine pr in
    let own : r.0.totals.layout ≡ s.totals.layout = ap (λ (x : Sum). x.totals.layout) one.total ∙ layout_stays s one.t
    in
    let rest = each_found r.0 result r.1 most (subst IsLayout (sym own) is) one.next er in (
      one.t ∷ rest.0,
      one.text ∙ ap (λ (x : List ℕ). noted_text one.t ++ x) rest.1,
      (one.noted, subst (λ (l : Layout). AllByRecursion (IsNoted l) rest.0) own rest.2),
      rest.3 ∙ ap (λ (x : Sum). plus_all x rest.0) one.total,
    ))

abbrev pub AreReadIn : Sum → Sum → List ℕ → Type 0
AreReadIn s result text =
    (t : Sum) × (ts : List Sum) × (text ≡ noted_texts (t ∷ ts)) × AllByRecursion (IsNoted s.totals.layout) (t ∷ ts)
    × (result ≡ plus_all s (t ∷ ts))

pub texts_found : (s result : Sum) (text : List ℕ) (n : ℕ) → IsLayout s.totals.layout
    → sum_of_texts s (n, text_lines text) ≡ Ok result → AreReadIn s result text
unfolding sum_of_texts
texts_found s result text n is e =
    by_ok (in_line (number_behind (codes "keys")) (n, text_lines text)) _ result e (λ first pf ef.
    let line = line_found (number_behind (codes "keys")) (n, text_lines text) first pf in
    let number = number_line_found (codes "keys") line.0 first.0 line.2 in
    let read = each_found s result (Some first) (length (text_lines text)) is number.1 ef in
    let all : text ≡ next_text (Some first) = sym (text_back text) ∙ line.1
    ∙ ap (λ (x : List ℕ). (x ++ 10 ∷ []) ++ text_of first.1.1) number.0 in
    some first all read.0 read.1 read.2 read.3) where
      some : (first : ℕ × Rest) → text ≡ next_text (Some first) → (ts : List Sum) → next_text (Some first)
          ≡ noted_texts ts → AllByRecursion (IsNoted s.totals.layout) ts → result ≡ plus_all s ts
          → AreReadIn s result text
      some first all [] none under total = absurd cc
      some first all (t ∷ ts) is under total = (t, ts, all ∙ is, under, total)
