-- The effects of a step, computed from its acts and its choices.
use Rattle.std.specs.Prelude.{◌≡◌, ◌⊎◌, ℕ, ◌==◌, Bool, true, List, [], ◌∷◌, map, Option, Some, None, is_some, slice_get, if◌then◌else◌}
use Rattle.fx_base.specs.declared.counts.Counts.{Counts}
use Rattle.fx_layout.specs.Keys.{Key, refines}
use Rattle.fx_tables.specs.declared.packet.Packet.{Packet}
use Rattle.fx_tables.specs.declared.record.Record.{Record}
use Rattle.fx_tables.specs.declared.holding.Holding.{Holding}
use Rattle.fx_run_text.specs.declared.step.Step.{Step}
use Rattle.fx_run_text.specs.declared.step.Step.TheVariants.{Cross, Expire, Arrive}
use Rattle.fx_tables.specs.Network.{Net, Exporter, entries, at_places, holder_place}
use Rattle.fx_tables.specs.Classes.{Class, path}
use Rattle.fx_base.specs.Entries.{entry_numbered}
use Rattle.fx_machine.specs.declared.effects.TakenIn.{TakenIn}
use Rattle.fx_machine.specs.declared.effects.Tally.{Tally}
use Rattle.fx_machine.specs.declared.effects.Tally.TheVariants.{Untallied, Counted, Unassigned}
use Rattle.fx_machine.specs.States.{State}
use Rattle.fx_machine.specs.Acts.{Choices, Act, Tally as Tallies, Send, Hold, all_acts}
use Rattle.fx_machine.specs.Sends.{Chosen, chosen_from}
use Rattle.fx_machine.specs.Handling.{handling_acts}
use Rattle.fx_machine.specs.Holds.{hold_all}
use Rattle.fx_machine.specs.Steps.{crossing_acts, acts_of_leaving, acts_of_arrival, link_place, after}

-- the effects of a step, besides removing a crossing or a record from where it was
pub record Effects : Type 0 where
  pub links : List ℕ  -- those on which the record is put, in order
  pub taken : List TakenIn  -- what holders take in, in order
  pub tally : Tally

-- ---- the acts of a step

abbrev pub crossing_of : Net → List Class → Option Packet → ℕ → List Act
crossing_of net classes None crossing = []
crossing_of net classes (Some packet) crossing =
    crossing_acts net packet.fields (entry_numbered (path classes packet) crossing)

abbrev pub leaving_of : Net → ℕ → Option Record → List Act
leaving_of net place None = []
leaving_of net place (Some r) = acts_of_leaving net place r.key

abbrev pub arrival_of : Net → ℕ → Option Record → List Act
arrival_of net place None = []
arrival_of net place (Some r) = acts_of_arrival net r.key (slice_get net.links place)

-- the acts on the record of this number at this index; none if the index doesn't exist
abbrev pub acts_at : (ℕ → Option Record → List Act) → List (List Record) → Option ℕ → ℕ → List Act
acts_at acts rss None number = []
acts_at acts rss (Some place) number = acts place (entry_numbered (entries (slice_get rss place)) number)

-- no acts if the packet, the holder, the link or the record doesn't exist
abbrev pub acts_of_step : Net → List Class → List Packet → Step → State → List Act
acts_of_step net classes packets (Cross packet crossing choices) s =
    crossing_of net classes (entry_numbered packets packet) crossing
acts_of_step net classes packets (Expire holder number choices) s =
    acts_at (leaving_of net) s.held (holder_place net holder) number
acts_of_step net classes packets (Arrive link number choices) s =
    acts_at (arrival_of net) s.carried (link_place link) number

abbrev pub choices_of : Step → Choices
choices_of (Cross packet crossing choices) = choices
choices_of (Expire holder number choices) = choices
choices_of (Arrive link number choices) = choices

-- ---- the effects of acts

abbrev pub senders : List Act → List Exporter
senders [] = []
senders (Tallies key ∷ acts) = senders acts
senders (Send exporter key ∷ acts) = exporter ∷ senders acts
senders (Hold holder key ∷ acts) = senders acts

abbrev pub takers : List Act → List ℕ
takers [] = []
takers (Tallies key ∷ acts) = takers acts
takers (Send exporter key ∷ acts) = takers acts
takers (Hold holder key ∷ acts) = holder ∷ takers acts

-- whether a record with this key is counted at the report
abbrev pub tally_of : Net → Key → Tally
tally_of net key = if refines key.layout net.report_layout then Counted else Unassigned

abbrev pub tally_among : Net → List Act → Tally
tally_among net [] = Untallied
tally_among net (Tallies key ∷ acts) = tally_of net key
tally_among net (Send exporter key ∷ acts) = tally_among net acts
tally_among net (Hold holder key ∷ acts) = tally_among net acts

-- each holder in order adds the record by the next choice
abbrev pub taken_by : List ℕ → Choices → List TakenIn
taken_by [] choices = []
taken_by (h ∷ hs) [] = []
taken_by (h ∷ hs) (c ∷ cs) = record { holder = h; joined = c } ∷ taken_by hs cs

abbrev pub effects_by : Tally → List ℕ → Option Chosen → Option Effects
effects_by tally holders None = None
effects_by tally holders (Some c) = Some (record { links = c.links; taken = taken_by holders c.rest; tally = tally })

abbrev pub effects_of : Net → List Class → List Packet → Step → State → Option Effects
effects_of net classes packets step s =
    let acts = acts_of_step net classes packets step s in
    effects_by (tally_among net acts) (takers acts) (chosen_from [] (senders acts) (choices_of step))

-- ---- the acts given as a list of holders, a list of exporting processes and whether the record is tallied

abbrev pub tally_when : Net → Bool → Key → Tally
tally_when net tallies key = if tallies then tally_of net key else Untallied

-- a step can be made, apart from its choices, and these are its acts
pub record IsHandled (net : Net) (classes : List Class) (packets : List Packet) (step : Step) (s : State)
    (tally : Tally) (exporters : List ℕ) (holdings : List Holding) : Type 0 where
  pub key : Key
  pub counts : Counts
  pub tallies : Bool
  pub from : State  -- without the crossing or the record that leaves
  pub acts : acts_of_step net classes packets step s ≡ handling_acts net key tallies exporters holdings
  pub tally_is : tally ≡ tally_when net tallies key
  pub made : after net classes packets step s
      ≡ all_acts net counts (handling_acts net key tallies exporters holdings) from (choices_of step)
  pub held : (holdings ≡ []) ⊎ (from.held ≡ s.held)

-- ---- keys of held records

abbrev pub keys_in : List Record → List Key
keys_in [] = []
keys_in (r ∷ rs) = r.key ∷ keys_in rs

-- the keys of the records that are new at a holder, if these holdings are added by these choices
abbrev pub new_keys : ℕ → List Holding → Choices → List Key
new_keys holder [] cs = []
new_keys holder (h ∷ hs) [] = []
new_keys holder (h ∷ hs) (None ∷ cs) = if h.holder == holder then h.key
    ∷ new_keys holder hs cs else new_keys holder hs cs
new_keys holder (h ∷ hs) (Some n ∷ cs) = new_keys holder hs cs

-- ---- effects by choices

-- these choices suffice for the exporting processes and the holders, and these are the effects
pub record AreChosen (net : Net) (held : List (List Record)) (tally : Tally) (exporters : List ℕ)
    (holdings : List Holding) (choices : Choices) (e : Effects) : Type 0 where
  pub rest : Choices
  pub links : chosen_from [] (at_places net.exporters exporters) choices
      ≡ Some (record { links = e.links; rest = rest })
  pub can : (counts : Counts) → is_some (hold_all counts holdings held rest) ≡ true
  pub taken : e.taken ≡ taken_by (map (λ h. h.holder) holdings) rest
  pub tally_is : e.tally ≡ tally

-- a choice of a destination is missing or names none, or the choices after those of destinations don't fit the holders
abbrev pub CannotBeChosen : Net → List (List Record) → List ℕ → List Holding → Choices → Type 0
CannotBeChosen net held exporters holdings choices =
    (chosen_from [] (at_places net.exporters exporters) choices ≡ None)
    ⊎ ((c : Chosen) × (chosen_from [] (at_places net.exporters exporters) choices ≡ Some c)
    × ((counts : Counts) → hold_all counts holdings held c.rest ≡ None))
