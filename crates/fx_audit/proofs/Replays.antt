-- A run whose steps are made as they are read.
use Rattle.std.proofs.Common.{◌≡◌, List, [], ◌∷◌, ◌++◌, Option, Some, None, Ok, Err, IfSome, ◌<◌, length, ◌⊎◌, inl, inr, refl, ap, ◌∙◌}
use Rattle.fx_base.specs.declared.fault.Fault.{Fault}
use Rattle.fx_base.specs.declared.fault.Place.TheVariants as places
use Rattle.fx_base.specs.Fault.{fault_at}
use Rattle.fx_base.specs.Lines.{Lines, Fails, GoesOnToLines}
use Rattle.fx_layout.specs.Keys.{IsLayout}
use Rattle.fx_tables.specs.Network.{Net}
use Rattle.fx_tables.specs.Classes.{Class}
use Rattle.fx_tables.specs.declared.packet.Packet.{Packet}
use Rattle.fx_run_text.specs.declared.step.Step.{Step}
use Rattle.fx_run_text.specs.declared.text_version.TextVersion.{TextVersion}
use Rattle.fx_run_text.specs.RunText.{Run}
use Rattle.fx_run_text.specs.RunReading.{MayReadBehind, MayReadRun, ReadsNextStep, ReadsUpTo}
use Rattle.fx_run_text.proofs.RunSteps.{next_fails, reads_next}
use Rattle.fx_machine.specs.Acts.{Outcome}
use Rattle.fx_machine.specs.States.{State, opening, wrapped_state}
use Rattle.fx_machine.specs.Steps.{after, run, then_run}
use Rattle.fx_collect.specs.Totals.{totals_of, totals_in}
use Rattle.fx_collect.proofs.Runs.{run_restated}
use Rattle.fx_audit.specs.Replay.{CannotReplay, ComesTo}

-- ---- a step more

ends_there : (net : Net) (classes : List Class) (packets : List Packet) (o : Outcome)
    → then_run o (run net classes packets []) ≡ o
ends_there net classes packets (Err n) = refl
ends_there net classes packets (Ok s) = refl

one_more : (net : Net) (classes : List Class) (packets : List Packet) (steps : List Step) (step : Step) (s : State)
    → run net classes packets (steps ++ step ∷ []) s
    ≡ then_run (run net classes packets steps s) (after net classes packets step)
one_more net classes packets [] step s = ends_there net classes packets (after net classes packets step s)
one_more net classes packets (first ∷ steps) step s =
    behind_first (after net classes packets first s) (λ t. one_more net classes packets steps step t) where
      behind_first : (o : Outcome) → ((t : State) → run net classes packets (steps ++ step ∷ []) t
          ≡ then_run (run net classes packets steps t) (after net classes packets step))
          → then_run o (run net classes packets (steps ++ step ∷ []))
          ≡ then_run (then_run o (run net classes packets steps)) (after net classes packets step)
      behind_first (Err n) more = refl
      behind_first (Ok t) more = more t

-- ---- steps that were made

-- these steps were made, up to this state, or one of them was refused with this fault
abbrev pub HasMade : Net → List Class → List Packet → List Step → State → Option Fault → Type 0
HasMade net classes packets steps reported None =
    (last : State) × (run net classes packets steps (opening net classes packets) ≡ Ok last)
    × (reported ≡ wrapped_state last)
HasMade net classes packets steps reported (Some e) =
    (e.place ≡ places.None) × (run net classes packets steps (opening net classes packets) ≡ Err e.number)

-- what making a step comes to
abbrev pub StepsTo : Net → List Class → List Packet → Step → State → State → Type 0
StepsTo net classes packets step reported now =
    (s : State) → reported ≡ wrapped_state s → (next : State) × (after net classes packets step s ≡ Ok next)
    × (now ≡ wrapped_state next)

abbrev pub RefusesStep : Net → List Class → List Packet → Step → State → Fault → Type 0
RefusesStep net classes packets step reported e =
    (e.place ≡ places.None) × ((s : State) → reported ≡ wrapped_state s → after net classes packets step s
    ≡ Err e.number)

made_more : (net : Net) (classes : List Class) (packets : List Packet) (steps : List Step) (step : Step)
    (reported now : State) → HasMade net classes packets steps reported None
    → StepsTo net classes packets step reported now → HasMade net classes packets (steps ++ step ∷ []) now None
made_more net classes packets steps step reported now (last, is, tells) made =
    let next = made last tells in (
      next.0,
      one_more net classes packets steps step (opening net classes packets)
          ∙ ap (λ o. then_run o (after net classes packets step)) is ∙ next.1,
      next.2,
    )

refused_now : (net : Net) (classes : List Class) (packets : List Packet) (steps : List Step) (step : Step)
    (reported now : State) (e : Fault) → HasMade net classes packets steps reported None
    → RefusesStep net classes packets step reported e → HasMade net classes packets (steps ++ step ∷ []) now (Some e)
refused_now net classes packets steps step reported now e (last, is, tells) (place, refused) = (
  place,
  one_more net classes packets steps step (opening net classes packets)
      ∙ ap (λ o. then_run o (after net classes packets step)) is ∙ refused last tells,
)

refused_before : (net : Net) (classes : List Class) (packets : List Packet) (steps : List Step) (step : Step)
    (reported now : State) (e : Fault) → HasMade net classes packets steps reported (Some e)
    → HasMade net classes packets (steps ++ step ∷ []) now (Some e)
refused_before net classes packets steps step reported now e (place, is) = (
  place,
  one_more net classes packets steps step (opening net classes packets)
      ∙ ap (λ o. then_run o (after net classes packets step)) is,
)

-- ---- steps that are read and made

-- a run that can't be read can't be replayed
pub not_read : (net : Net) (classes : List Class) (first new : Lines) (e : Fault) → (e ≡ fault_at 900 places.None)
    ⊎ (Fails first new e ⊎ MayReadRun classes first (Err e)) → (e ≡ fault_at 900 places.None)
    ⊎ (Fails first new e ⊎ CannotReplay net classes first e)
not_read net classes first new e (inl memory) = inl memory
not_read net classes first new e (inr (inl fails)) = inr (inl fails)
not_read net classes first new e (inr (inr read)) = inr (inr (inl read))

-- some steps were read and made, and this one is read behind them
abbrev pub IsUnderWay : Net → List Class → Lines → TextVersion → List Packet → Lines → Option Step → State
    → Option Fault → Type 0
IsUnderWay net classes first version packets lines next reported refused =
    (steps : List Step) × ReadsUpTo version classes first lines (record { packets = packets; steps = steps }) next
    × HasMade net classes packets steps reported refused

pub begins : (net : Net) (classes : List Class) (first : Lines) (version : TextVersion) (packets : List Packet)
    (lines : Lines) (next : Option Step) → ReadsUpTo version classes first lines
    (record { packets = packets; steps = [] }) next
    → IsUnderWay net classes first version packets lines next (opening net classes packets) None
begins net classes first version packets lines next reads = ([], reads, (opening net classes packets, refl, refl))

-- what becomes of a step, where one before it may have been refused
pub record MakesStep (net : Net) (classes : List Class) (packets : List Packet) (step : Step) (reported now : State)
    (refused result : Option Fault) : Type 0 where
  pub before : IfSome refused (λ e. result ≡ Some e)
  pub made : refused ≡ None → result ≡ None → StepsTo net classes packets step reported now
  pub refuses : refused ≡ None → IfSome result (RefusesStep net classes packets step reported)

made_or_refused : (net : Net) (classes : List Class) (packets : List Packet) (steps : List Step) (step : Step)
    (reported now : State) (refused result : Option Fault) → HasMade net classes packets steps reported refused
    → MakesStep net classes packets step reported now refused result
    → HasMade net classes packets (steps ++ step ∷ []) now result
made_or_refused net classes packets steps step reported now (Some e) result made more =
    rw more.before (refused_before net classes packets steps step reported now e made)
made_or_refused net classes packets steps step reported now None None made more =
    made_more net classes packets steps step reported now made (more.made refl refl)
made_or_refused net classes packets steps step reported now None (Some e) made more =
    refused_now net classes packets steps step reported now e made (more.refuses refl)

-- a step is made, unless one was refused, and the next is read
pub goes_on : (net : Net) (classes : List Class) (first : Lines) (version : TextVersion) (packets : List Packet)
    (old new : Lines) (step : Step) (next : Option Step) (reported now : State) (refused result : Option Fault)
    (net' : Net) (classes' : List Class) → net' ≡ net → classes' ≡ classes
    → IsUnderWay net classes first version packets old (Some step) reported refused
    → MakesStep net' classes' packets step reported now refused result → ReadsNextStep version old new next
    → IsUnderWay net classes first version packets new next now result
goes_on net classes first version packets old new step next reported now refused result net' classes' same of
    (steps, reads, made) more' read =
    let more : MakesStep net classes packets step reported now refused result = rw (same, of) at more' in (
      steps ++ step ∷ [],
      reads_next version classes first old new (record { packets = packets; steps = steps }) _ step
          next reads read refl,
      made_or_refused net classes packets steps step reported now refused result made more,
    )

-- reading fails behind a step
pub reading_fails : (net : Net) (classes : List Class) (first : Lines) (version : TextVersion) (packets : List Packet)
    (old new : Lines) (step : Step) (reported : State) (refused : Option Fault) (e : Fault) → old.stopped ≡ None
    → GoesOnToLines first old → IsUnderWay net classes first version packets old (Some step) reported refused
    → (e ≡ fault_at 900 places.None) ⊎ (Fails old new e
    ⊎ ((classes : List Class) (run : Run) → 0 < length run.steps → MayReadBehind version classes old run (Err e)))
    → (e ≡ fault_at 900 places.None) ⊎ (Fails first new e ⊎ CannotReplay net classes first e)
reading_fails net classes first version packets old new step reported refused e going on (steps, reads, made) read =
    not_read net classes first new e (next_fails version classes first old new
    (record { packets = packets; steps = steps }) step e going on reads read)

-- ---- a run that was read to its end

pub comes_to : (net : Net) (classes : List Class) (first : Lines) (version : TextVersion) (packets : List Packet)
    (lines : Lines) (reported : State) → IsUnderWay net classes first version packets lines None reported None
    → (last : State) × ComesTo net classes first last × (reported ≡ wrapped_state last)
comes_to net classes first version packets lines reported (steps, read, (last, is, tells)) =
    (last, (record { packets = packets; steps = steps }, read, is), tells)

pub cannot : (net : Net) (classes : List Class) (first : Lines) (version : TextVersion) (packets : List Packet)
    (lines : Lines) (reported : State) (e : Fault) (F : Fault → Type 0)
    → IsUnderWay net classes first version packets lines None reported (Some e) → (e ≡ fault_at 900 places.None)
    ⊎ (F e ⊎ CannotReplay net classes first e)
cannot net classes first version packets lines reported e F (steps, read, refused) =
    inr (inr (inr (record { packets = packets; steps = steps }, read, inr refused)))

-- ---- what its last state tells

-- what a run's last state tells are its own totals
pub tells_its_own : (net net' : Net) (classes : List Class) (lines : Lines) (last reported : State)
    → IsLayout net.report_layout → ComesTo net classes lines last → reported ≡ wrapped_state last → net' ≡ net
    → totals_of net'.report_layout reported ≡ totals_in net'.report_layout reported
tells_its_own net net' classes lines last reported l (r, read, is) tells same =
    let here : totals_of net.report_layout (wrapped_state last) ≡ totals_in net.report_layout (wrapped_state last) =
    run_restated net classes r.packets r.steps last l is in
    rw (same, tells) here
