-- What a reader of lines comes to, line by line.
use Rattle.std.proofs.Common.{◌≡◌, ℕ, ◌<◌, ◌≤◌, ◌⊎◌, Bool, true, false, not, List, [], ◌∷◌, length, Option, Some, None, Ok, Err, IfSome, refl, ap, sym, ◌∙◌, arith, inl, inr, subst, lt-ltb}
use Rattle.std.specs.Prelude.{nat_lt, ◌==◌}
use Rattle.std.proofs.lemmas.Bool.{le-ltb}
use Rattle.std.proofs.lemmas.List.Sums.{prefix_len-le-length}
use Rattle.std.proofs.lemmas.List.{length-take-le}
use Rattle.fx_base.specs.declared.fault.Fault.{Fault}
use Rattle.fx_base.specs.declared.fault.Place.TheVariants as places
use Rattle.fx_base.specs.Device.{MayBeLeft}
use Rattle.fx_base.specs.Fault.{fault_at}
use Rattle.fx_base.specs.Lines.{Lines, AtLine, AtTextEnd, text_lines, next_number, line_len, first_line, line_ends, after_line, AdvancesToLine, RefusesText, StopsText, Fails}
use Rattle.fx_base.proofs.GoingOn.{something_follows, something_left, may_follow, nothing_left, to_line}
use Rattle.fx_base.proofs.TextLines.{lines_first}
use Rattle.fx_sums.specs.SumReading.{SumLine, missing, wrong, bytes_of, next_line, in_line, MayReadTexts, Gives, RefusesTexts, MayMeet, GoesOnToLine, IsAtEnd}

-- ---- going on

line_len_le : (text : List ℕ) → line_len text ≤ length text
line_len_le text = prefix_len-le-length (λ b. not (b == 10)) text

-- a text whose first line is too long
long_first : (text : List ℕ) → 4096 < line_len text → (l : SumLine) × (ls : List SumLine) × (text_lines text ≡ l ∷ ls)
    × (nat_lt 4096 (length l.0) ≡ true)
long_first text long =
    let le : line_len text ≤ length text = line_len_le text in
    let some : 0 < length text = omega arith in
    let len : length (first_line text) ≡ line_len text = length-take-le (line_len text) text le in (
      (first_line text, line_ends text),
      text_lines (after_line text),
      lines_first text some,
      lt-ltb 4096
          (length (first_line text)) (omega arith),
    )

pub at_line_of : (old new : Lines) (going : Bool) → AdvancesToLine old new (Ok going) → going ≡ true → AtLine old new
at_line_of old new going h e = subst (λ b. AdvancesToLine old new (Ok b)) e h

pub at_end_of : (old new : Lines) (going : Bool) → AdvancesToLine old new (Ok going) → going ≡ false → AtTextEnd old new
at_end_of old new going h e = subst (λ b. AdvancesToLine old new (Ok b)) e h

short : (old new : Lines) → AtLine old new → nat_lt 4096 (length new.line) ≡ false
short old new at = le-ltb 4096 (length new.line) at.short

abbrev pub MeetsFault : Lines → Fault → Type 0
MeetsFault lines e = MayMeet lines (λ l ls. bytes_of (next_number lines.number) l ≡ Err e)

pub stops_at : (old new : Lines) (e : Fault) → RefusesText old new e → Fails old new e ⊎ MeetsFault old e
stops_at old new e h = by_stopped old.stopped refl h.again h.first where
  too_long : (e ≡ fault_at 903 (places.Line (next_number old.number)))
      × ((text : List ℕ) × MayBeLeft old.left text × (4096 < line_len text)) → MeetsFault old e
  too_long (is, (text, left, long)) =
      let f = long_first text long in
      (text, left, (f.0, f.1, f.2, rw f.3 (ap (λ (x : Fault). Err x) (sym is))))

  by_stop : StopsText old new e → Fails old new e ⊎ MeetsFault old e
  by_stop (inl device) = inl (inr device)
  by_stop (inr long) = inr (too_long long)

  by_stopped : (s : Option Fault) → old.stopped ≡ s → IfSome s (λ f. e ≡ f) → (s ≡ None → StopsText old new e)
      → Fails old new e ⊎ MeetsFault old e
  by_stopped (Some f) is again first = inl (inl (is ∙ ap (λ (x : Fault). Some x) (sym again)))
  by_stopped None is again first = by_stop (first refl)

pub unended : (old new : Lines) → AtLine old new → new.ended ≡ false → MeetsFault old (wrong new.number)
unended old new at ended =
    let some = something_follows old new at in
    let before = at.lines some.0 some.1 in (
      before.0,
      before.1,
      (
        (new.line, new.ended),
        text_lines some.0,
        before.2,
        rw (short old new at, ended)
            (ap (λ (n : ℕ). Err (wrong n)) (sym at.number)),
      ),
    )

pub goes_on : (old new : Lines) → AtLine old new → new.ended ≡ true → GoesOnToLine old new
goes_on old new at ended = record {
  going = at.going.1;
  on = to_line old new at ended;
  number = at.number;
  smaller = at.smaller;
  meets = λ rest left.
      let before = at.lines rest (may_follow new rest ended left) in (
        before.0,
        before.1,
        (
          (new.line, new.ended),
          text_lines rest,
          before.2,
          (rw (short old new at, ended) refl, refl),
        ),
      );
}

pub stays : (old new : Lines) → AtTextEnd old new → IsAtEnd old new
stays old new at = record { number = at.number; ends = ([], nothing_left old.left new.left at.text, refl) }

-- ---- the next line

pub gives_line : (old new : Lines) → GoesOnToLine old new → Gives next_line old new new.line
gives_line old new on rest left =
    let at = on.meets rest left in
    let m = at.2 in
    (at.0, at.1, ap (λ (ls : List SumLine). next_line (old.number, ls)) m.2 ∙ line_is m.0 m.1 m.3.0 m.3.1) where
      line_is : (l : SumLine) (ls : List SumLine) → bytes_of new.number l ≡ Ok new.line → ls ≡ text_lines rest
          → next_line (old.number, l ∷ ls) ≡ Ok (new.line, (new.number, text_lines rest))
      line_is l ls said same = rw (← on.number, said, same) refl

pub refuses_line : (old new : Lines) (e : Fault) → Fails old new e ⊎ MeetsFault old e → RefusesTexts next_line old new e
refuses_line old new e (inl f) = inl f
refuses_line old new e (inr (text, left, (l, ls, is, said))) =
    inr (text, left, ap (λ (ls : List SumLine). next_line (old.number, ls)) is ∙ rw said refl)

pub misses_line : (old new : Lines) → IsAtEnd old new → MayReadTexts next_line old (Err (missing new.number))
misses_line old new at =
    let k : old.number ≡ new.number = sym at.number in
    (at.ends.0, at.ends.1, rw (at.ends.2, k) refl)

-- ---- what is read in it

module _ {A : Type 0} (read : List ℕ → Option A) (old new : Lines) where
  pub gives_in_line : (x : A) → GoesOnToLine old new → read new.line ≡ Some x → Gives (in_line read) old new x
  gives_in_line x on is rest left =
      let g = gives_line old new on rest left in
      (g.0, g.1, rw (g.2, is) refl)

  pub wrong_in_line : GoesOnToLine old new → read new.line ≡ None
      → MayReadTexts (in_line read) old (Err (wrong new.number))
  wrong_in_line on is =
      let some = something_left new.left in
      let g = gives_line old new on some.0 some.1 in
      (g.0, g.1, rw (g.2, is) refl)

  pub refuses_in_line : (e : Fault) → RefusesTexts next_line old new e → RefusesTexts (in_line read) old new e
  refuses_in_line e (inl f) = inl f
  refuses_in_line e (inr (text, left, is)) = inr (text, left, rw is refl)
