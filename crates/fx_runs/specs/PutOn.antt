-- What the steps of a run put on a link.
use Rattle.std.specs.Prelude.{◌≡◌, ℕ, suc, ◌-◌, ◌==◌, List, [], ◌∷◌, ◌++◌, length, drop, slice_get, Ok, Err, if◌then◌else◌}
use Rattle.fx_tables.specs.declared.packet.Packet.{Packet}
use Rattle.fx_tables.specs.declared.record.Record.{Record}
use Rattle.fx_run_text.specs.declared.step.Step.{Step}
use Rattle.fx_run_text.specs.declared.step.Step.TheVariants.{Arrive}
use Rattle.fx_tables.specs.Network.{Net, entries}
use Rattle.fx_tables.specs.Classes.{Class}
use Rattle.fx_machine.specs.States.{State, Coming}
use Rattle.fx_machine.specs.Acts.{Outcome}
use Rattle.fx_machine.specs.Steps.{after, run}
use Rattle.fx_runs.specs.Extending.{coming_too}

-- the records on the link at this place
abbrev pub carried_on : State → ℕ → List Record
carried_on s link = entries (slice_get s.carried link)

-- one record leaves the link if the step is an arrival from it
abbrev pub gone_by : Step → ℕ → ℕ
gone_by (Arrive from number choices) link = if from == suc link then 1 else 0
gone_by _ link = 0

-- the records that a step put on the link at this place: those after the ones that were on it before
abbrev pub put_by : Step → ℕ → State → State → List Record
put_by step link s t = drop (length (carried_on s link) - gone_by step link) (carried_on t link)

-- the records that a step put, followed by those put from then on
abbrev pub put_then : Step → ℕ → State → (State → List Record) → Outcome → List Record
put_then step link s next (Err n) = []
put_then step link s next (Ok t) = put_by step link s t ++ next t

-- the records that some steps put on a link, in the order of the steps
abbrev pub put_on : Net → List Class → List Packet → ℕ → List Step → State → List Record
put_on net classes packets link [] s = []
put_on net classes packets link (step ∷ steps) s =
    put_then step link s (put_on net classes packets link steps) (after net classes packets step s)

-- ---- the laws

-- The same records are put over more packets, with more crossings to come.
abbrev pub PutExtends : Type 0
PutExtends =
    (net : Net) (classes : List Class) (packets : List Packet) (extra : List Packet)
    (more : List Coming) (link : ℕ) (steps : List Step) (s : State) (t : State)
    → run net classes packets steps s ≡ Ok t
    → put_on net classes (packets ++ extra) link steps (coming_too more s)
    ≡ put_on net classes packets link steps s

-- Steps that follow others put the same records.
abbrev pub PutJoins : Type 0
PutJoins =
    (net : Net) (classes : List Class) (packets : List Packet) (link : ℕ) (first : List Step)
    (behind : List Step) (s : State) (mid : State)
    → run net classes packets first s ≡ Ok mid
    → put_on net classes packets link (first ++ behind) s
    ≡ put_on net classes packets link first s ++ put_on net classes packets link behind mid
