-- A run of which a step was read goes on to its next step or its end, and where that fails, reading the run fails.
use Rattle.std.proofs.Common.{◌≡◌, ℕ, suc, ◌<◌, ◌⊎◌, false, List, [], ◌∷◌, ◌++◌, length, Option, Some, None, IfSome, Result, Ok, Err, refl, ap, ◌∙◌, arith, inl, inr, ne_eqb}
use Rattle.std.specs.Prelude.{◌==◌, All}
use Rattle.std.proofs.lemmas.List.Elements.{All-push}
use Rattle.fx_base.specs.declared.fault.Fault.{Fault}
use Rattle.fx_base.specs.declared.fault.Place.TheVariants as places
use Rattle.fx_base.specs.Fault.{fault_at}
use Rattle.fx_base.specs.Lines.{Lines, GoesOnToLines, Fails, line_budget, text_lines}
use Rattle.fx_base.proofs.GoingOn.{goes_then, something_left}
use Rattle.fx_tables.specs.declared.packet.Packet.{Packet}
use Rattle.fx_base.specs.Entries.{entry_numbered}
use Rattle.fx_tables.specs.Classes.{Class, IsOf}
use Rattle.fx_run_text.specs.declared.run_line.RunLine.TheVariants as line
use Rattle.fx_run_text.specs.declared.step.Step.{Step}
use Rattle.fx_run_text.specs.declared.text_version.TextVersion.{TextVersion}
use Rattle.fx_run_text.specs.RunText.{Run}
use Rattle.fx_run_text.specs.RunReading.{at_line, behind, packet_fault, unless, with_packet, with_step, MayEnd, MayReadRun, MayReadBehind, ReadsNextLine, ReadsNextStep, ReadsOn, ReadsUpTo}
use Rattle.fx_run_text.proofs.RunLines.{comes, fails_behind, on_line}

-- ---- the next line of a run of which a step was read

pub behind_end : (version : TextVersion) (classes : List Class) (old new : Lines) (run : Run)
    (result : Result Run Fault) → ReadsNextLine version old new line.End → MayEnd new run result
    → MayReadBehind version classes old run result
behind_end version classes old new run result next (rest, left, is) =
    let before = next rest left in
    (before.0, before.1, before.2 classes run ∙ is)

not_none : (steps : List Step) → 0 < length steps → (length steps == 0) ≡ false
not_none steps lt = ne_eqb (length steps) 0 (λ e. absurd (omega (arith, lt, e)))

late : (classes : List Class) (run : Run) (p : Packet) → 0 < length run.steps → packet_fault classes run p ≡ Some 855
late classes run p lt = rw (not_none run.steps lt) refl

pub packet_late : (version : TextVersion) (old new : Lines) (p : Packet) → ReadsNextLine version old new (line.Packet p)
    → (classes : List Class) (run : Run) → 0 < length run.steps
    → MayReadBehind version classes old run (Err (at_line 855 new.number))
packet_late version old new p next classes run lt =
    let some = something_left new.left in
    let before = next some.0 some.1 in (
      before.0,
      before.1,
      before.2 classes run
          ∙ ap (λ o. unless o new.number (behind version classes new.number (with_packet run p) (text_lines some.0)))
          (late classes run p lt),
    )

pub behind_end_fault : (version : TextVersion) (old mid new : Lines) (e : Fault) → mid.stopped ≡ None
    → GoesOnToLines old mid → ReadsNextLine version old mid line.End → Fails mid new e
    ⊎ ((run : Run) → MayEnd mid run (Err e))
    → Fails old new e ⊎ ((classes : List Class) (run : Run) → 0 < length run.steps
    → MayReadBehind version classes old run (Err e))
behind_end_fault version old mid new e going on next (inl fails) = inl (fails_behind old mid new e going on fails)
behind_end_fault version old mid new e going on next (inr ends) =
    inr (λ classes run lt. behind_end version classes old mid run (Err e) next (ends run))

-- what is refused behind any run is refused behind one of which a step was read
pub at_any_run : (version : TextVersion) (old new : Lines) (e : Fault) → (e ≡ fault_at 900 places.None)
    ⊎ (Fails old new e ⊎ ((classes : List Class) (run : Run) → MayReadBehind version classes old run (Err e)))
    → (e ≡ fault_at 900 places.None) ⊎ (Fails old new e
    ⊎ ((classes : List Class) (run : Run) → 0 < length run.steps → MayReadBehind version classes old run (Err e)))
at_any_run version old new e (inl memory) = inl memory
at_any_run version old new e (inr (inl fails)) = inr (inl fails)
at_any_run version old new e (inr (inr read)) = inr (inr (λ classes run lt. read classes run))

-- ---- its packets

pub all_of : (classes : List Class) (packets packets' : List Packet) (p : Packet) → packets' ≡ packets ++ p ∷ []
    → IsOf p (entry_numbered classes p.class)
    → All (λ packet. IsOf packet (entry_numbered classes packet.class)) packets
    → All (λ packet. IsOf packet (entry_numbered classes packet.class)) packets'
all_of classes packets packets' p is of all =
    rw is (All-push (λ packet. IsOf packet (entry_numbered classes packet.class)) packets p all of)

-- ---- the whole run

on_step : (version : TextVersion) (classes : List Class) (first old new : Lines) (run : Run) (step : Step)
    → ReadsOn version classes first old run → ReadsNextLine version old new (line.Step step)
    → ReadsOn version classes first new (with_step run step)
on_step version classes first old new run step reads next rest left =
    on_line version classes first old new run (line.Step step) reads next rest left

pub first_step : (version : TextVersion) (classes : List Class) (first old new : Lines) (run : Run) (step : Step)
    → ReadsOn version classes first old run → ReadsNextLine version old new (line.Step step)
    → ReadsUpTo version classes first new run (Some step)
first_step version classes first old new run step reads next = on_step version classes first old new run step reads next

-- so much is read, and a step; then what comes next is read
read_on : (version : TextVersion) (classes : List Class) (first old new : Lines) (run : Run) (step : Step)
    (next : Option Step) → ReadsUpTo version classes first old run (Some step) → ReadsNextStep version old new next
    → ReadsUpTo version classes first new (with_step run step) next
read_on version classes first old new run step None reads next =
    comes version classes first old (with_step run step) (Ok (with_step run step)) reads
    (next classes (with_step run step))
read_on version classes first old new run step (Some after) reads next =
    on_step version classes first old new (with_step run step) after reads next

pub reads_next : (version : TextVersion) (classes : List Class) (first old new : Lines) (run run' : Run) (step : Step)
    (next : Option Step) → ReadsUpTo version classes first old run (Some step) → ReadsNextStep version old new next
    → run' ≡ with_step run step → ReadsUpTo version classes first new run' next
reads_next version classes first old new run run' step next reads more is =
    rw is (read_on version classes first old new run step next reads more)

pub goes_on_next : (first old new : Lines) (next : Option Step) → GoesOnToLines first old
    → IfSome next (λ _. GoesOnToLines old new) → IfSome next (λ _. GoesOnToLines first new)
goes_on_next first old new None on more = tt
goes_on_next first old new (Some after) on more = goes_then first old new on more

some_step : (steps : List Step) (step : Step) → 0 < length (steps ++ step ∷ [])
some_step [] step = omega arith
some_step (s ∷ ss) step = omega arith

-- so much is read, and a step; then reading fails
pub next_fails : (version : TextVersion) (classes : List Class) (first old new : Lines) (run : Run) (step : Step)
    (e : Fault) → old.stopped ≡ None → GoesOnToLines first old → ReadsUpTo version classes first old run (Some step)
    → (e ≡ fault_at 900 places.None) ⊎ (Fails old new e
    ⊎ ((classes : List Class) (run : Run) → 0 < length run.steps → MayReadBehind version classes old run (Err e)))
    → (e ≡ fault_at 900 places.None) ⊎ (Fails first new e ⊎ MayReadRun classes first (Err e))
next_fails version classes first old new run step e going on reads (inl memory) = inl memory
next_fails version classes first old new run step e going on reads (inr (inl fails)) =
    inr (inl (fails_behind first old new e going on fails))
next_fails version classes first old new run step e going on reads (inr (inr read)) =
    inr (inr (comes version classes first old (with_step run step) (Err e) reads
    (read classes (with_step run step) (some_step run.steps step))))

-- ---- how far there is to go

-- falls with each step, and with the run's end
abbrev pub steps_budget : Option Step → Lines → ℕ
steps_budget None lines = 0
steps_budget (Some step) lines = suc (line_budget lines)
