-- How the first refusal of what a reader of lines has left changes as it goes on.
use Rattle.std.proofs.Common.{◌≡◌, ℕ, ◌<◌, ◌⊎◌, Bool, true, false, nat_lt, if◌then◌else◌, List, [], ◌∷◌, length, Option, Some, None, Result, Ok, Err, IfSome, IfErr, OnOk, refl, ap, sym, ◌∙◌, subst, inl, inr}
use Rattle.fx_base.specs.declared.fault.Fault.{Fault}
use Rattle.fx_base.specs.declared.fault.Place.TheVariants as places
use Rattle.fx_base.specs.Fault.{fault_at}
use Rattle.fx_base.specs.Device.{MayBeLeft}
use Rattle.fx_base.specs.Lines.{Lines, AtLine, AtTextEnd, GoesOnToLines, RefusesText, StopsText, text_lines, next_number, line_len, AdvancesToLine, Fails}
use Rattle.fx_base.proofs.GoingOn.{cut_off_behind, may_follow, nothing_left, something_follows}
use Rattle.fx_run_text.proofs.RunLines.{long_first}
use Rattle.fx_check.specs.Judging.{Judge}
use Rattle.fx_check.specs.Outcomes.{Continues, IsRefusal, StandsBehind}
use Rattle.fx_check.specs.FirstRefusal as verdict
use Rattle.fx_check.specs.FirstRefusal.{Goal, Line, Refusal, at_line, refusal_at, at_end, goes_on, first_refusal, reading_of, after_reading, made_after}

one_on : (judge : Judge) (n m made : ℕ) (gs left : List Goal) (l : Line) (ls : List Line) → m ≡ next_number n
    → after_reading judge made gs (reading_of l) ≡ Ok left
    → first_refusal judge n made gs (l ∷ ls) ≡ first_refusal judge m (made_after made (reading_of l)) left ls
one_on judge n m made gs left l ls num after =
    rw num (ap (goes_on (next_number n) ls (λ left. first_refusal judge (next_number n) (made_after made (reading_of l))
    left ls)) after)

-- what isn't refused has been ended by a line feed
pub ended_line : (judge : Judge) (made : ℕ) (gs left : List Goal) (l : Line)
    → after_reading judge made gs (reading_of l) ≡ Ok left → l.1 ≡ true
ended_line judge made gs left (line, true) after = refl
ended_line judge made gs left (line, false) after = by_length (nat_lt 4096 (length line)) after where
  by_length : (b : Bool) → after_reading judge made gs (if b then verdict.long else verdict.cut) ≡ Ok left → false
      ≡ true
  by_length true e = cc
  by_length false e = cc

-- ---- a line

-- a line was taken
pub reads_on : (judge : Judge) (first old new : Lines) (all gs left : List Goal) (made made_now : ℕ)
    → Continues judge first all old made gs → AtLine old new
    → after_reading judge made gs (reading_of (new.line, new.ended)) ≡ Ok left → made_now
    ≡ made_after made (reading_of (new.line, new.ended))
    → Continues judge first all new made_now left
reads_on judge first old new all gs left made made_now before at after count rest is_left =
    let line = at.lines rest (may_follow new rest (ended_line judge made gs left (new.line, new.ended) after) is_left)
    in
    let whole = before line.0 line.1 in (
      whole.0,
      whole.1,
      whole.2 ∙ ap (first_refusal judge old.number made gs) line.2
          ∙ one_on judge old.number new.number made gs left (new.line, new.ended) (text_lines rest) at.number after
          ∙ ap (λ n. first_refusal judge new.number n left (text_lines rest)) (sym count),
    )

-- the first refusal of a text that may have been left at first is so
abbrev pub Comes : Judge → Lines → List Goal → (Option Refusal → Type 0) → Type 0
Comes judge first all P = (text : List ℕ) × MayBeLeft first.left text
    × P (first_refusal judge first.number 0 all (text_lines text))

-- a line was refused
pub refuses_line : (judge : Judge) (first old new : Lines) (all gs : List Goal) (made k : ℕ) (e : Fault)
    → Continues judge first all old made gs → AtLine old new
    → after_reading judge made gs (reading_of (new.line, new.ended)) ≡ Err k → e ≡ at_line k new.number
    → Comes judge first all (IsRefusal e new)
refuses_line judge first old new all gs made k e before at after fault =
    let some = something_follows old new at in
    let line = at.lines some.0 some.1 in
    let whole = before line.0 line.1 in
    let is : first_refusal judge old.number made gs (text_lines line.0)
    ≡ Some (refusal_at k (next_number old.number) (text_lines some.0)) =
    ap (first_refusal judge old.number made gs) line.2
    ∙ ap (goes_on (next_number old.number) (text_lines some.0)
    (λ left. first_refusal judge (next_number old.number) (made_after made (reading_of (new.line, new.ended))) left
    (text_lines some.0))) after in
    let stands : StandsBehind new (refusal_at k (next_number old.number) (text_lines some.0)) =
    inr (at.going.1, at.number, (some.0, some.1.0, refl)) in
    (whole.0, whole.1, subst (IsRefusal e new) (sym (whole.2 ∙ is)) (fault ∙ ap (at_line k) at.number, stands))

-- ---- the end

-- the text has ended, and nothing is left to say
pub ends_well : (judge : Judge) (first old new : Lines) (all gs : List Goal) (made : ℕ)
    → Continues judge first all old made gs → AtTextEnd old new → at_end old.number gs ≡ None
    → Comes judge first all (λ r. r ≡ None)
ends_well judge first old new all gs made before at none =
    let whole = before [] (nothing_left old.left new.left at.text) in
    (whole.0, whole.1, whole.2 ∙ none)

-- and nothing is left
none_behind : (old new : Lines) → AtTextEnd old new → MayBeLeft new.left []
none_behind old new at = reported old.left refl at.text where
  reported : (o : Option (List ℕ)) → old.left ≡ o → IfSome o (λ text. (text ≡ []) × (new.left ≡ Some []))
      → MayBeLeft new.left []
  reported None is h = rw (at.opaque is) tt
  reported (Some text) is h = rw h.1 refl

-- the text has ended too early
pub ends_early : (judge : Judge) (first old new : Lines) (all gs : List Goal) (made : ℕ) (e : Fault)
    → Continues judge first all old made gs → AtTextEnd old new → at_end new.number gs
    ≡ Some (record { fault = e; last = new.number; behind = [] }) → Comes judge first all (IsRefusal e new)
ends_early judge first old new all gs made e before at early =
    let whole = before [] (nothing_left old.left new.left at.text) in
    let stands : StandsBehind new (record { fault = e; last = new.number; behind = [] }) =
    inr (at.going.1, refl, ([], none_behind old new at, refl)) in (
      whole.0,
      whole.1,
      subst (IsRefusal e new) (sym (whole.2 ∙ ap (λ n. at_end n gs) (sym at.number) ∙ early))
          (refl, stands),
    )

-- ---- the reader itself has refused

too_long : (judge : Judge) (first old new : Lines) (all gs : List Goal) (made : ℕ) (e : Fault)
    → Continues judge first all old made gs → new.stopped ≡ Some e → e
    ≡ fault_at 903 (places.Line (next_number old.number)) → (text : List ℕ) → MayBeLeft old.left text → 4096
    < line_len text → Comes judge first all (IsRefusal e new)
too_long judge first old new all gs made e before stopped fault text left long =
    let f = long_first text long in
    let whole = before text left in
    let is : first_refusal judge old.number made gs (text_lines text)
    ≡ Some (refusal_at 903 (next_number old.number) f.1) = rw (f.2, f.3) refl in (
      whole.0,
      whole.1,
      subst (IsRefusal e new) (sym (whole.2 ∙ is))
          (fault, inl (refl, stopped ∙ ap (λ (x : Fault). Some x) fault)),
    )

pub reader_refuses : (judge : Judge) (first old new : Lines) (all gs : List Goal) (made : ℕ) (e : Fault)
    → Continues judge first all old made gs → GoesOnToLines first old
    → ((f : Fault) → old.stopped ≡ Some f → first.stopped ≡ Some f) → RefusesText old new e
    → Fails first new e ⊎ Comes judge first all (IsRefusal e new)
reader_refuses judge first old new all gs made e reads on before h = by_stopped old.stopped refl h.again h.first where
  by_stops : StopsText old new e → Fails first new e ⊎ Comes judge first all (IsRefusal e new)
  by_stops (inl (is, cut)) = inl (inr (is, cut_off_behind first old new on cut))
  by_stops (inr (is, (text, left, long))) =
      inr (too_long judge first old new all gs made e reads h.from_now_on is text left long)

  by_stopped : (s : Option Fault) → old.stopped ≡ s → IfSome s (λ f. e ≡ f) → (s ≡ None → StopsText old new e)
      → Fails first new e ⊎ Comes judge first all (IsRefusal e new)
  by_stopped (Some f) is again stops = inl (inl (before e (is ∙ ap (λ (x : Fault). Some x) (sym again))))
  by_stopped None is again stops = by_stops (stops refl)

-- ---- at a call

pub ok_gives : {X E A B : Type 0} (r : Result X E) → OnOk r A → (A → B) → OnOk r B
ok_gives (Ok x) h f = f h
ok_gives (Err e) h f = tt

pub at_line_of : (old new : Lines) (going : Bool) → AdvancesToLine old new (Ok going) → going ≡ true → AtLine old new
at_line_of old new going h e = subst (λ b. AdvancesToLine old new (Ok b)) e h

pub at_end_of : (old new : Lines) (going : Bool) → AdvancesToLine old new (Ok going) → going ≡ false → AtTextEnd old new
at_end_of old new going h e = subst (λ b. AdvancesToLine old new (Ok b)) e h

-- the line that was lent is the reader's
pub lent_line : {A : Type 0} (f : Line → A) (new : Lines) (bytes : List ℕ) (ended : Bool) → bytes ≡ new.line → ended
    ≡ new.ended → f (new.line, new.ended) ≡ f (bytes, ended)
lent_line f new bytes ended b e = rw (b, e) refl

pub err_gives : {X E : Type 0} {P Q : E → Type 0} (r : Result X E) → IfErr r P → ((e : E) → P e → Q e) → IfErr r Q
err_gives (Ok x) h f = tt
err_gives (Err e) h f = f e h
