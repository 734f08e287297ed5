-- What happens to a record: acts, which all draw their choices from one list.
use Rattle.std.specs.Prelude.{ℕ, List, [], ◌∷◌, ◌++◌, Option, Some, None, Result, Ok, Err, slice_get, slice_set, if◌then◌else◌}
use Rattle.fx_base.specs.declared.counts.Counts.{Counts}
use Rattle.fx_base.specs.Counts.{add_counts}
use Rattle.fx_layout.specs.Keys.{Key, same_key}
use Rattle.fx_tables.specs.declared.record.Record.{Record}
use Rattle.fx_tables.specs.Network.{Net, Exporter}
use Rattle.fx_base.specs.Entries.{entry_numbered}
use Rattle.fx_base.specs.Refusals.{wrong_choices}
use Rattle.fx_machine.specs.States.{State, with_entry, after_tally, sent_to, sent_to_all}

-- a choice: none for a new record, or a number
abbrev pub Choices : Type 0
Choices = List (Option ℕ)

-- an act on a record with this key
pub data Act : Type 0 where
  Tally : (key : Key) → Act  -- it is tallied
  Send : (exporter : Exporter) (key : Key) → Act  -- an exporting process sends it
  Hold : (holder : ℕ) (key : Key) → Act  -- a cache or an aggregation takes it in

-- the state, and the remaining choices
pub record Made : Type 0 where
  pub state : State
  pub choices : Choices

-- the record is sent to one destination, by the next choice; none if that choice can't be made
abbrev pub sent_to_chosen : Option (Option ℕ) → Record → State → Choices → Option Made
sent_to_chosen None r s choices = None
sent_to_chosen (Some d) r s choices = Some (record { state = sent_to d r s; choices = choices })

abbrev pub send_by_choice : List (Option ℕ) → Record → State → Choices → Option Made
send_by_choice destinations r s [] = None
send_by_choice destinations r s (None ∷ choices) = None
send_by_choice destinations r s (Some n ∷ choices) = sent_to_chosen (entry_numbered destinations n) r s choices

-- the records with the counts added to the one of this number, if it exists and has the key
abbrev pub records_joining : Option Record → List Record → ℕ → Record → Option (List Record)
records_joining None rs number r = None
records_joining (Some old) rs number r =
    if same_key old.key r.key then Some (with_entry rs number
    (record { key = old.key; counts = add_counts old.counts r.counts })) else None

-- a new record comes last; a number names the held record to which the counts are added
abbrev pub taken_in : List Record → Option ℕ → Record → Option (List Record)
taken_in rs None r = Some (rs ++ r ∷ [])
taken_in rs (Some number) r = records_joining (entry_numbered rs number) rs number r

abbrev pub with_held : State → ℕ → Option (List Record) → Choices → Option Made
with_held s holder None choices = None
with_held s holder (Some rs) choices = Some (record
    { state = record s { held = slice_set s.held holder rs }; choices = choices })

abbrev pub hold_in : Option (List Record) → ℕ → Record → State → Option ℕ → Choices → Option Made
hold_in None holder r s choice choices = None
hold_in (Some rs) holder r s choice choices = with_held s holder (taken_in rs choice r) choices

abbrev pub hold : ℕ → Record → State → Choices → Option Made
hold holder r s [] = None
hold holder r s (choice ∷ choices) = hold_in (slice_get s.held holder) holder r s choice choices

abbrev pub act : Net → Counts → Act → State → Choices → Option Made
act net counts (Tally key) s choices = Some (record { state = after_tally net key counts s; choices = choices })
act net counts (Send exporter key) s choices =
    if exporter.parallel
    then Some (record {
      state = sent_to_all exporter.destinations (record { key = key; counts = counts }) s;
      choices =
          choices;
    })
    else send_by_choice exporter.destinations (record { key = key; counts = counts }) s choices
act net counts (Hold holder key) s choices = hold holder (record { key = key; counts = counts }) s choices

-- the state after a step, or a fault as its number
abbrev pub Outcome : Type 0
Outcome = Result State ℕ

-- an error if choices are left over
abbrev pub all_used : Choices → State → Outcome
all_used [] s = Ok s
all_used (choice ∷ choices) s = Err wrong_choices

-- these acts in order
abbrev pub act_all : Net → Counts → List Act → Option Made → Outcome
act_all net counts acts None = Err wrong_choices
act_all net counts [] (Some made) = all_used made.choices made.state
act_all net counts (a ∷ acts) (Some made) = act_all net counts acts (act net counts a made.state made.choices)

abbrev pub all_acts : Net → Counts → List Act → State → Choices → Outcome
all_acts net counts acts s choices = act_all net counts acts (Some (record { state = s; choices = choices }))
