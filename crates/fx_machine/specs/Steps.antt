-- The steps of a network, each a function of the state and of the choices given in the step.
use Rattle.std.specs.Prelude.{ℕ, zero, suc, ◌&&◌, ◌==◌, List, [], ◌∷◌, ◌++◌, map, filter, Option, Some, None, Ok, Err, slice_get, slice_set, remove, if◌then◌else◌}
use Rattle.fx_base.specs.declared.counts.Counts.{Counts}
use Rattle.fx_elements.specs.Axes.{Fields}
use Rattle.fx_layout.specs.Keys.{Key, key_of, project}
use Rattle.fx_tables.specs.declared.packet.Packet.{Packet}
use Rattle.fx_tables.specs.declared.record.Record.{Record}
use Rattle.fx_tables.specs.declared.observation.Occurrence.{Occurrence}
use Rattle.fx_tables.specs.declared.traffic.Crossing.{Crossing}
use Rattle.fx_run_text.specs.declared.step.Step.{Step}
use Rattle.fx_run_text.specs.declared.step.Step.TheVariants.{Cross, Expire, Arrive}
use Rattle.fx_tables.specs.Network.{Net, AggregationEntry, Process, at_places, layout_of, exporters_of, takes, holder_place}
use Rattle.fx_base.specs.Entries.{entry_numbered}
use Rattle.fx_base.specs.Refusals.{no_record_there, step_not_enabled}
use Rattle.fx_tables.specs.Classes.{Class, path}
use Rattle.fx_tables.specs.Occurrences.{occurrences}
use Rattle.fx_machine.specs.States.{State, Coming, without}
use Rattle.fx_machine.specs.Acts.{Choices, Act, Tally, Send, Hold, Outcome, all_acts}

-- ---- a packet crosses an interface

-- the counts of one packet
abbrev pub one_packet : Packet → Counts
one_packet packet = record { packets = 1; octets = packet.octets }

-- the cache of an occurrence adds a record of the packet
abbrev pub meet : Net → Fields → Occurrence → Act
meet net fields o = Hold o.holder (key_of (layout_of (slice_get net.holders o.holder)) fields)

abbrev pub crossing_acts : Net → Fields → Option Crossing → List Act
crossing_acts net fields None = []
crossing_acts net fields (Some crossing) = map (meet net fields) (occurrences net crossing fields)

abbrev pub later : Option ℕ → Option ℕ
later None = None
later (Some n) = Some (suc n)

-- the index of a crossing among the pending ones
abbrev pub place : List Coming → ℕ → ℕ → Option ℕ
place [] packet crossing = None
place (c ∷ cs) packet crossing =
    if c.packet == packet && c.crossing == crossing then Some 0 else later (place cs packet crossing)

abbrev pub cross_now : Net → List Class → Option Packet → ℕ → State → Choices → Outcome
cross_now net classes None crossing s choices = Err step_not_enabled
cross_now net classes (Some packet) crossing s choices =
    all_acts net (one_packet packet) (crossing_acts net packet.fields (entry_numbered (path classes packet) crossing)) s
    choices

abbrev pub after_cross : Net → List Class → Option Packet → Option ℕ → ℕ → State → Choices → Outcome
after_cross net classes packet None crossing s choices = Err step_not_enabled
after_cross net classes packet (Some n) crossing s choices =
    cross_now net classes packet crossing (record s { coming = remove s.coming n }) choices

-- ---- a record leaves a holder

-- each exporting process that the holder names sends the record
abbrev pub acts_of_leaving : Net → ℕ → Key → List Act
acts_of_leaving net holder key = map (λ e. Send e key) (exporters_of net (slice_get net.holders holder))

abbrev pub after_expire : Net → ℕ → List Record → ℕ → Option Record → State → Choices → Outcome
after_expire net holder rs number None s choices = Err no_record_there
after_expire net holder rs number (Some r) s choices =
    all_acts net r.counts (acts_of_leaving net holder r.key)
    (record s { held = slice_set s.held holder (without rs number) }) choices

abbrev pub expire_from : Net → ℕ → Option (List Record) → ℕ → State → Choices → Outcome
expire_from net holder None number s choices = Err step_not_enabled
expire_from net holder (Some rs) number s choices =
    after_expire net holder rs number (entry_numbered rs number) s choices

abbrev pub expire_at : Net → Option ℕ → ℕ → State → Choices → Outcome
expire_at net None number s choices = Err step_not_enabled
expire_at net (Some holder) number s choices = expire_from net holder (slice_get s.held holder) number s choices

-- ---- a record leaves a link

abbrev pub take_in : Net → Key → AggregationEntry → Act
take_in net key aggregation = Hold aggregation.holder
    (project key (layout_of (slice_get net.holders aggregation.holder)))

-- each exporting process that the collecting process names sends the record, and each aggregation that accepts its key
-- adds it
abbrev pub acts_of : Net → Key → Option Process → List Act
acts_of net key None = []
acts_of net key (Some process) =
    map (λ e. Send e key) (at_places net.exporters process.exporters)
    ++ map (take_in net key) (filter (takes net key) process.aggregations)

-- at the report's collecting process the record is tallied first
abbrev pub coming_to : Net → Key → ℕ → List Act
coming_to net key process =
    (if process == net.report then Tally key ∷ [] else []) ++ acts_of net key (slice_get net.processes process)

abbrev pub acts_of_arrival : Net → Key → Option ℕ → List Act
acts_of_arrival net key None = []
acts_of_arrival net key (Some process) = coming_to net key process

abbrev pub after_arrive : Net → ℕ → List Record → ℕ → Option Record → State → Choices → Outcome
after_arrive net link rs number None s choices = Err no_record_there
after_arrive net link rs number (Some r) s choices =
    all_acts net r.counts (acts_of_arrival net r.key (slice_get net.links link))
    (record s { carried = slice_set s.carried link (without rs number) }) choices

abbrev pub arrive_from : Net → ℕ → Option (List Record) → ℕ → State → Choices → Outcome
arrive_from net link None number s choices = Err step_not_enabled
arrive_from net link (Some rs) number s choices = after_arrive net link rs number (entry_numbered rs number) s choices

-- the index of the link of this number, which counts from 1
abbrev pub link_place : ℕ → Option ℕ
link_place zero = None
link_place (suc n) = Some n

abbrev pub arrive_at : Net → Option ℕ → ℕ → State → Choices → Outcome
arrive_at net None number s choices = Err step_not_enabled
arrive_at net (Some link) number s choices = arrive_from net link (slice_get s.carried link) number s choices

-- ---- any step

-- the state after a step, or its fault: 851 if its place doesn't exist or the crossing was already made, then 853 if no
-- record
-- has that number, then 852 if there are too few or too many choices or one of them can't be made
abbrev pub after : Net → List Class → List Packet → Step → State → Outcome
after net classes packets (Cross packet crossing choices) s =
    after_cross net classes (entry_numbered packets packet) (place s.coming packet crossing) crossing s choices
after net classes packets (Expire holder number choices) s = expire_at net (holder_place net holder) number s choices
after net classes packets (Arrive link number choices) s = arrive_at net (link_place link) number s choices

-- ---- a run

abbrev pub then_run : Outcome → (State → Outcome) → Outcome
then_run (Err n) next = Err n
then_run (Ok s) next = next s

-- each step is made in order
abbrev pub run : Net → List Class → List Packet → List Step → State → Outcome
run net classes packets [] s = Ok s
run net classes packets (step ∷ steps) s = then_run (after net classes packets step s) (run net classes packets steps)
