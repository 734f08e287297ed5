-- Notes up to where a text ends, one after another.
use Rattle.std.proofs.Common.{◌≡◌, ℕ, ◌≤◌, ◌⊎◌, arith, Bool, true, false, List, ◌∷◌, Some, None, Ok, Err, refl, ap, ◌∙◌, subst, inl, inr}
use Rattle.fx_base.specs.declared.fault.Fault.{Fault}
use Rattle.fx_base.specs.Device.{MayBeLeft, MayHaveLeft}
use Rattle.fx_base.specs.Lines.{Lines, GoesOnToLines, Fails, text_lines, line_budget}
use Rattle.fx_base.proofs.GoingOn.{something_left, goes_then}
use Rattle.fx_sums.specs.declared.notes.Notes.{Notes}
use Rattle.fx_sums.specs.declared.line_behind.LineBehind.TheVariants as behind
use Rattle.fx_sums.specs.Sums.{no_notes}
use Rattle.fx_sums.specs.SumLines.{line_behind, are_whole}
use Rattle.fx_sums.specs.SumReading.{SumLine, missing, wrong, bytes_of, notes_first, notes_of, MayReadTexts, GivesText, RefusesTexts, GoesOnFrom, GoesOnToLine, GoesOnOrEnds, IsAtEnd}
use Rattle.fx_sums.proofs.Lines.{MeetsFault}
use Rattle.fx_sums.proofs.Tallying.{fails_behind}

-- the next line in place of those before
pub goes_on_from : (first now new : Lines) → GoesOnToLines first now → line_budget now ≤ line_budget first
    → GoesOnToLine now new → GoesOnFrom first new
goes_on_from first now new since fewer line = record {
  going = line.going;
  on = goes_then first now new since line.on;
  smaller = let smaller = line.smaller in omega (arith, smaller, fewer);
}

-- whatever is left, reading all notes is reading those behind what was read
abbrev pub NotesOn : Lines → Lines → Notes → Type 0
NotesOn first now notes =
    (rest : List ℕ) → MayBeLeft now.left rest
    → MayHaveLeft first.left (λ text. notes_first no_notes first.number (text_lines text)
    ≡ notes_first notes now.number (text_lines rest))

pub notes_none : (lines : Lines) → NotesOn lines lines no_notes
notes_none lines rest left = (rest, left, refl)

module _ (first now : Lines) (notes : Notes) (on : NotesOn first now notes) where
  pub notes_one : (new : Lines) (more : Notes) → GoesOnToLine now new → line_behind notes new.line
      ≡ Some (behind.Notes more) → NotesOn first new more
  notes_one new more line is rest left =
      let meets = line.meets rest left in
      let m = meets.2 in
      let all = on meets.0 meets.1 in
      (all.0, all.1, all.2 ∙ ap (notes_first notes now.number) m.2 ∙ behind_it m.0 m.1 m.3.0 m.3.1) where
        behind_it : (l : SumLine) (ls : List SumLine) → bytes_of new.number l ≡ Ok new.line → ls ≡ text_lines rest
            → notes_first notes now.number (l ∷ ls) ≡ notes_first more new.number (text_lines rest)
        behind_it l ls said same = rw (← line.number, said, is, same) refl

  pub notes_wrong : (new : Lines) → GoesOnToLine now new → line_behind notes new.line ≡ None
      → MayReadTexts notes_of first (Err (wrong new.number))
  notes_wrong new line is =
      let some = something_left new.left in
      let meets = line.meets some.0 some.1 in
      let m = meets.2 in
      let all = on meets.0 meets.1 in
      (all.0, all.1, all.2 ∙ ap (notes_first notes now.number) m.2 ∙ behind_it m.0 m.1 m.3.0) where
        behind_it : (l : SumLine) (ls : List SumLine) → bytes_of new.number l ≡ Ok new.line
            → notes_first notes now.number (l ∷ ls) ≡ Err (wrong new.number)
        behind_it l ls said = rw (← line.number, said, is) refl

  pub notes_next : (new : Lines) (keys : ℕ) → GoesOnToLine now new → GoesOnToLines first now → line_budget now
      ≤ line_budget first → line_behind notes new.line ≡ Some (behind.Keys keys)
      → GivesText notes_of first new notes (Some keys)
  notes_next new keys line since fewer is = (goes_on_from first now new since fewer line, read) where
    read : (rest : List ℕ) → MayBeLeft new.left rest
        → MayReadTexts notes_of first (Ok (notes, Some (keys, (new.number, text_lines rest))))
    read rest left =
        let meets = line.meets rest left in
        let m = meets.2 in
        let all = on meets.0 meets.1 in
        (all.0, all.1, all.2 ∙ ap (notes_first notes now.number) m.2 ∙ next m.0 m.1 m.3.0 m.3.1) where
          next : (l : SumLine) (ls : List SumLine) → bytes_of new.number l ≡ Ok new.line → ls ≡ text_lines rest
              → notes_first notes now.number (l ∷ ls) ≡ Ok (notes, Some (keys, (new.number, text_lines rest)))
          next l ls said same = rw (← line.number, said, is, same) refl

  pub notes_refused : (new : Lines) (e : Fault) → now.stopped ≡ None → GoesOnToLines first now → Fails now new e
      ⊎ MeetsFault now e → RefusesTexts notes_of first new e
  notes_refused new e going since (inl fails) = inl (fails_behind first now new e going since fails)
  notes_refused new e going since (inr (text, left, (l, ls, is, said))) =
      let all = on text left in
      inr (all.0, all.1, all.2 ∙ ap (notes_first notes now.number) is ∙ rw said refl)

  pub notes_all : (new : Lines) → IsAtEnd now new → are_whole notes ≡ true
      → MayReadTexts notes_of first (Ok (notes, None))
  notes_all new at whole =
      let all = on at.ends.0 at.ends.1 in
      (all.0, all.1, all.2 ∙ rw (at.ends.2, whole) refl)

  pub notes_missing : (new : Lines) → IsAtEnd now new → are_whole notes ≡ false
      → MayReadTexts notes_of first (Err (missing new.number))
  notes_missing new at whole =
      let all = on at.ends.0 at.ends.1 in
      (all.0, all.1, all.2 ∙ rw (at.ends.2, whole, ← at.number) refl)

pub goes_on_of : (old new : Lines) (going : Bool) → GoesOnOrEnds old new (Ok going) → going ≡ true
    → GoesOnToLine old new
goes_on_of old new going h e = subst (λ b. GoesOnOrEnds old new (Ok b)) e h
