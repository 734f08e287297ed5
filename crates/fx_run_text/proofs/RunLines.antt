-- What the lines of a run's text say, as a reader of lines goes on, and where the reader stops, that reading stops.
use Rattle.std.proofs.Common.{◌≡◌, ℕ, ◌<◌, ◌≤◌, ◌⊎◌, ◌&&◌, Bool, true, false, not, codes, List, [], ◌∷◌, length, Option, Some, None, Result, Ok, Err, IfSome, refl, ap, sym, ◌∙◌, arith, inl, inr, subst, lt-ltb}
use Rattle.std.specs.Prelude.{nat_lt, ◌==◌}
use Rattle.std.specs.Str.{bytes_eq}
use Rattle.std.proofs.lemmas.Bool.{le-ltb}
use Rattle.std.proofs.lemmas.List.Sums.{prefix_len-le-length}
use Rattle.std.proofs.lemmas.List.{length-take-le}
use Rattle.fx_base.specs.declared.fault.Fault.{Fault}
use Rattle.fx_base.specs.declared.fault.Place.TheVariants as places
use Rattle.fx_base.specs.Device.{MayBeLeft}
use Rattle.fx_base.specs.Fault.{fault_at}
use Rattle.fx_base.specs.Lines.{Lines, AtLine, AtTextEnd, GoesOnToLines, text_lines, next_number, line_len, first_line, line_ends, after_line, AdvancesToLine, RefusesText, StopsText, Fails}
use Rattle.fx_base.proofs.GoingOn.{cut_off_behind, may_follow, nothing_left, something_follows, something_left}
use Rattle.fx_base.proofs.TextLines.{lines_first}
use Rattle.fx_elements.specs.Words.{words}
use Rattle.fx_tables.specs.declared.packet.Packet.{Packet}
use Rattle.fx_run_text.specs.declared.run_line.RunLine.{RunLine}
use Rattle.fx_run_text.specs.declared.run_line.RunLine.TheVariants as line
use Rattle.fx_run_text.specs.declared.text_version.TextVersion.{TextVersion}
use Rattle.fx_run_text.specs.declared.text_version.TextVersion.TheVariants.{One, Two}
use Rattle.fx_tables.specs.Classes.{Class}
use Rattle.fx_run_text.specs.RunText.{Run}
use Rattle.fx_run_text.specs.RunReading.{TextLine, at_line, line_of, no_run, run_in, behind, end_of_lines, said, from_line, packet_fault, unless, well_formed, with_packet, MayEnd, MayReadRun, MayReadBehind, ReadsFirst, ReadsNextLine, ReadsOn}

line_len_le : (text : List ℕ) → line_len text ≤ length text
line_len_le text = prefix_len-le-length (λ b. not (b == 10)) text

-- a text whose first line is too long
pub long_first : (text : List ℕ) → 4096 < line_len text → (l : TextLine) × (ls : List TextLine)
    × (text_lines text ≡ l ∷ ls) × (nat_lt 4096 (length l.0) ≡ true)
long_first text long =
    let le : line_len text ≤ length text = line_len_le text in
    let some : 0 < length text = omega arith in
    let len : length (first_line text) ≡ line_len text = length-take-le (line_len text) text le in (
      (first_line text, line_ends text),
      text_lines (after_line text),
      lines_first text some,
      lt-ltb 4096
          (length (first_line text)) (omega arith),
    )

-- ---- a line that a reader is at

pub at_line_of : (old new : Lines) (going : Bool) → AdvancesToLine old new (Ok going) → going ≡ true → AtLine old new
at_line_of old new going h e = subst (λ b. AdvancesToLine old new (Ok b)) e h

short : (old new : Lines) → AtLine old new → nat_lt 4096 (length new.line) ≡ false
short old new at = le-ltb 4096 (length new.line) at.short

-- what reads lines comes to, at a line, whatever follows it
with_line : (read : List TextLine → Result Run Fault) (result : Result Run Fault) (old new : Lines) → AtLine old new
    → ((ls : List TextLine) → read ((new.line, new.ended) ∷ ls) ≡ result) → (text : List ℕ) × MayBeLeft old.left text
    × (read (text_lines text) ≡ result)
with_line read result old new at all =
    let some = something_follows old new at in
    let before = at.lines some.0 some.1 in
    (before.0, before.1, ap read before.2 ∙ all (text_lines some.0))

-- ---- the first line

no_first : (classes : List Class) (n : ℕ) (l : TextLine) (ls : List TextLine) → nat_lt 4096 (length l.0) ≡ false
    → (l.1 && bytes_eq l.0 (codes "once-run 1")) ≡ false → (l.1 && bytes_eq l.0 (codes "once-run 2")) ≡ false
    → run_in classes n (l ∷ ls) ≡ Err (at_line 854 (next_number n))
no_first classes n l ls short one two = rw (short, one, two) refl

pub first_wrong : (old new : Lines) (classes : List Class) → AtLine old new
    → (new.ended && bytes_eq new.line (codes "once-run 1")) ≡ false
    → (new.ended && bytes_eq new.line (codes "once-run 2")) ≡ false
    → MayReadRun classes old (Err (at_line 854 new.number))
first_wrong old new classes at one two =
    with_line (run_in classes old.number) _ old new at
    (λ ls. no_first classes old.number (new.line, new.ended) ls (short old new at) one two
    ∙ ap (λ n. Err (at_line 854 n)) (sym at.number))

-- ---- a later line

pub next_wrong : (version : TextVersion) (old new : Lines) (number : ℕ) (classes : List Class) (run : Run)
    → AtLine old new → said version (new.line, new.ended) ≡ Err number
    → MayReadBehind version classes old run (Err (at_line number new.number))
next_wrong version old new number classes run at is =
    with_line (behind version classes old.number run) _ old new at (λ ls.
    ap (λ n. from_line classes n run (said version (new.line, new.ended)) ls (λ r. behind version classes n r ls))
    (sym at.number)
    ∙ ap (λ y. from_line classes new.number run y ls (λ r. behind version classes new.number r ls)) is)

pub at_end_of : (old new : Lines) (going : Bool) → AdvancesToLine old new (Ok going) → going ≡ false → AtTextEnd old new
at_end_of old new going h e = subst (λ b. AdvancesToLine old new (Ok b)) e h

pub next_missing : (version : TextVersion) (old new : Lines) (classes : List Class) (run : Run) → AtTextEnd old new
    → MayReadBehind version classes old run (Err (at_line 855 (next_number new.number)))
next_missing version old new classes run end =
    ([], nothing_left old.left new.left end.text, ap (λ n. Err (at_line 855 (next_number n))) (sym end.number))

pub first_missing : (old new : Lines) (classes : List Class) → AtTextEnd old new
    → MayReadRun classes old (Err (at_line 855 (next_number new.number)))
first_missing old new classes end =
    ([], nothing_left old.left new.left end.text, ap (λ n. Err (at_line 855 (next_number n))) (sym end.number))

-- what a line says that a line feed ended, and one that none ended
pub said_ended : (version : TextVersion) (old new : Lines) (o : Option RunLine) → AtLine old new → new.ended ≡ true
    → line_of version (words new.line) ≡ o → said version (new.line, new.ended) ≡ well_formed o
said_ended version old new o at ended is = rw (short old new at, ended, is) refl

pub said_unended : (version : TextVersion) (old new : Lines) → AtLine old new → new.ended ≡ false
    → said version (new.line, new.ended) ≡ Err 855
said_unended version old new at unended = rw (short old new at, unended) refl

pub next_line : (version : TextVersion) (old new : Lines) (x : RunLine) → AtLine old new → new.ended ≡ true
    → said version (new.line, new.ended) ≡ Ok x → ReadsNextLine version old new x
next_line version old new x at ended is rest left =
    let before = at.lines rest (may_follow new rest ended left) in
    let ls = text_lines rest in (
      before.0,
      before.1,
      λ classes run.
          ap (behind version classes old.number run) before.2
          ∙ ap (λ n. from_line classes n run (said version (new.line, new.ended)) ls
          (λ r. behind version classes n r ls)) (sym at.number)
          ∙ ap (λ y. from_line classes new.number run y ls (λ r. behind version classes new.number r ls)) is,
    )

pub first_one : (old new : Lines) → AtLine old new → new.ended ≡ true → bytes_eq new.line (codes "once-run 1") ≡ true
    → ReadsFirst One old new
first_one old new at ended one rest left =
    let before = at.lines rest (may_follow new rest ended left) in
    let ls = text_lines rest in (
      before.0,
      before.1,
      λ classes. ap (run_in classes old.number) before.2
          ∙ rw (short old new at, ended, one) (ap (λ n. behind One classes n no_run ls) (sym at.number)),
    )

pub first_two : (old new : Lines) → AtLine old new → new.ended ≡ true → bytes_eq new.line (codes "once-run 1") ≡ false
    → bytes_eq new.line (codes "once-run 2") ≡ true → ReadsFirst Two old new
first_two old new at ended one two rest left =
    let before = at.lines rest (may_follow new rest ended left) in
    let ls = text_lines rest in (
      before.0,
      before.1,
      λ classes. ap (run_in classes old.number) before.2
          ∙ rw (short old new at, ended, one, two) (ap (λ n. behind Two classes n no_run ls) (sym at.number)),
    )

-- ---- the end

pub ends_late : (old new : Lines) (run : Run) → AtLine old new → MayEnd old run (Err (at_line 855 new.number))
ends_late old new run at =
    with_line (end_of_lines old.number run) _ old new at
    (λ ls. rw (short old new at) (ap (λ n. Err (at_line 855 n)) (sym at.number)))

-- ---- where the reader stops

-- what reads the lines of a text refuses a first line that is too long
record RefusesLong (read : List TextLine → Result Run Fault) (n : ℕ) : Type 0 where
  long : (l : TextLine) (ls : List TextLine) → nat_lt 4096 (length l.0) ≡ true → read (l ∷ ls)
      ≡ Err (at_line 903 (next_number n))

-- the line that comes is too long, in a text that may be left
abbrev pub MayBeLong : Lines → Fault → Type 0
MayBeLong old e = (e ≡ fault_at 903 (places.Line (next_number old.number)))
    × ((text : List ℕ) × MayBeLeft old.left text × (4096 < line_len text))

too_long : (read : List TextLine → Result Run Fault) (old : Lines) (e : Fault) → RefusesLong read old.number
    → MayBeLong old e → (text : List ℕ) × MayBeLeft old.left text × (read (text_lines text) ≡ Err e)
too_long read old e refuses (is, (text, left, long)) =
    let f = long_first text long in
    (text, left, ap read f.2 ∙ refuses.long f.0 f.1 f.3 ∙ ap (λ (x : Fault). Err x) (sym is))

pub stops : (old new : Lines) (e : Fault) → RefusesText old new e → Fails old new e ⊎ MayBeLong old e
stops old new e h = by_stopped old.stopped refl h.again h.first where
  by_stop : StopsText old new e → Fails old new e ⊎ MayBeLong old e
  by_stop (inl device) = inl (inr device)
  by_stop (inr long) = inr long

  by_stopped : (s : Option Fault) → old.stopped ≡ s → IfSome s (λ f. e ≡ f) → (s ≡ None → StopsText old new e)
      → Fails old new e ⊎ MayBeLong old e
  by_stopped (Some f) is again first = inl (inl (is ∙ ap (λ (x : Fault). Some x) (sym again)))
  by_stopped None is again first = by_stop (first refl)

pub first_refused : (old new : Lines) (e : Fault) → RefusesText old new e → Fails old new e
    ⊎ ((classes : List Class) → MayReadRun classes old (Err e))
first_refused old new e h = by_stop (stops old new e h) where
  by_stop : Fails old new e ⊎ MayBeLong old e → Fails old new e
      ⊎ ((classes : List Class) → MayReadRun classes old (Err e))
  by_stop (inl f) = inl f
  by_stop (inr k) = inr (λ classes. too_long (run_in classes old.number) old e
      (record { long = λ l ls long. rw long refl }) k)

pub next_refused : (version : TextVersion) (old new : Lines) (e : Fault) → RefusesText old new e → Fails old new e
    ⊎ ((classes : List Class) (run : Run) → MayReadBehind version classes old run (Err e))
next_refused version old new e h = by_stop (stops old new e h) where
  by_stop : Fails old new e ⊎ MayBeLong old e → Fails old new e
      ⊎ ((classes : List Class) (run : Run) → MayReadBehind version classes old run (Err e))
  by_stop (inl f) = inl f
  by_stop (inr k) = inr (λ classes run. too_long (behind version classes old.number run) old e
      (record { long = λ l ls long. rw long refl }) k)

pub end_refused : (old new : Lines) (e : Fault) → RefusesText old new e → Fails old new e
    ⊎ ((run : Run) → MayEnd old run (Err e))
end_refused old new e h = by_stop (stops old new e h) where
  by_stop : Fails old new e ⊎ MayBeLong old e → Fails old new e ⊎ ((run : Run) → MayEnd old run (Err e))
  by_stop (inl f) = inl f
  by_stop (inr k) = inr (λ run. too_long (end_of_lines old.number run) old e
      (record { long = λ l ls long. rw long refl }) k)

-- ---- behind the lines that were read

pub first_fault : (classes : List Class) (first new : Lines) (e : Fault) → Fails first new e
    ⊎ ((classes : List Class) → MayReadRun classes first (Err e)) → Fails first new e ⊎ MayReadRun classes first (Err e)
first_fault classes first new e (inl fails) = inl fails
first_fault classes first new e (inr read) = inr (read classes)

pub fails_behind : (first old new : Lines) (e : Fault) → old.stopped ≡ None → GoesOnToLines first old → Fails old new e
    → Fails first new e
fails_behind first old new e going on (inl before) = absurd (cc)
fails_behind first old new e going on (inr (is, cut)) = inr (is, cut_off_behind first old new on cut)

-- what comes of what is behind the lines that were read comes of the whole
pub comes : (version : TextVersion) (classes : List Class) (first old : Lines) (run : Run) (result : Result Run Fault)
    → ReadsOn version classes first old run → MayReadBehind version classes old run result
    → MayReadRun classes first result
comes version classes first old run result reads (rest, left, is) =
    let before = reads rest left in
    (before.0, before.1, before.2 ∙ is)

pub next_fault : (version : TextVersion) (classes : List Class) (first old new : Lines) (run : Run) (e : Fault)
    → old.stopped ≡ None → GoesOnToLines first old → ReadsOn version classes first old run
    → (e ≡ fault_at 900 places.None) ⊎ (Fails old new e
    ⊎ ((classes : List Class) (run : Run) → MayReadBehind version classes old run (Err e)))
    → (e ≡ fault_at 900 places.None) ⊎ (Fails first new e ⊎ MayReadRun classes first (Err e))
next_fault version classes first old new run e going on reads (inl memory) = inl memory
next_fault version classes first old new run e going on reads (inr (inl fails)) =
    inr (inl (fails_behind first old new e going on fails))
next_fault version classes first old new run e going on reads (inr (inr read)) =
    inr (inr (comes version classes first old run (Err e) reads (read classes run)))

-- a line more
pub on_line : (version : TextVersion) (classes : List Class) (first old new : Lines) (run : Run) (x : RunLine)
    → ReadsOn version classes first old run → ReadsNextLine version old new x → (rest : List ℕ)
    → MayBeLeft new.left rest
    → (text : List ℕ) × MayBeLeft first.left text
    × (run_in classes first.number (text_lines text)
    ≡ from_line classes new.number run (Ok x) (text_lines rest)
    (λ r. behind version classes new.number r (text_lines rest)))
on_line version classes first old new run x reads next rest left =
    let line = next rest left in
    let before = reads line.0 line.1 in
    (before.0, before.1, before.2 ∙ line.2 classes run)

pub on_packet : (version : TextVersion) (classes : List Class) (first old new : Lines) (run run' : Run) (p : Packet)
    → ReadsOn version classes first old run → ReadsNextLine version old new (line.Packet p) → packet_fault classes run p
    ≡ None → run' ≡ with_packet run p → ReadsOn version classes first new run'
on_packet version classes first old new run run' p reads next none is rest left =
    let before = on_line version classes first old new run (line.Packet p) reads next rest left in (
      before.0,
      before.1,
      before.2 ∙ ap (λ o. unless o new.number
          (behind version classes new.number (with_packet run p) (text_lines rest))) none
          ∙ ap (λ r. behind version classes new.number r (text_lines rest)) (sym is),
    )

pub packet_wrong : (version : TextVersion) (classes : List Class) (first old new : Lines) (run : Run) (p : Packet)
    (number : ℕ) → ReadsOn version classes first old run → ReadsNextLine version old new (line.Packet p)
    → packet_fault classes run p ≡ Some number → MayReadRun classes first (Err (at_line number new.number))
packet_wrong version classes first old new run p number reads next wrong =
    let some = something_left new.left in
    let before = on_line version classes first old new run (line.Packet p) reads next some.0 some.1 in (
      before.0,
      before.1,
      before.2 ∙ ap (λ o. unless o new.number
          (behind version classes new.number (with_packet run p) (text_lines some.0))) wrong,
    )

pub on_end : (version : TextVersion) (classes : List Class) (first old new : Lines) (run : Run)
    (result : Result Run Fault) → ReadsOn version classes first old run → ReadsNextLine version old new line.End
    → MayEnd new run result → MayReadRun classes first result
on_end version classes first old new run result reads next (rest, left, is) =
    let before = on_line version classes first old new run line.End reads next rest left in
    (before.0, before.1, before.2 ∙ is)

pub end_fault : (version : TextVersion) (classes : List Class) (first old mid new : Lines) (run : Run) (e : Fault)
    → GoesOnToLines first mid → mid.stopped ≡ None → ReadsOn version classes first old run
    → ReadsNextLine version old mid line.End → Fails mid new e ⊎ ((run : Run) → MayEnd mid run (Err e))
    → Fails first new e ⊎ MayReadRun classes first (Err e)
end_fault version classes first old mid new run e on going reads next (inl fails) =
    inl (fails_behind first mid new e going on fails)
end_fault version classes first old mid new run e on going reads next (inr late) =
    inr (on_end version classes first old mid run (Err e) reads next (late run))
