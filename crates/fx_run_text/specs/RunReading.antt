-- How the text of a run is read.
use Rattle.std.specs.Prelude.{◌≡◌, ℕ, Bool, ◌==◌, ◌&&◌, nat_lt, if◌then◌else◌, List, [], ◌∷◌, ◌++◌, length, codes, Option, Some, None, Result, Ok, Err}
use Rattle.std.specs.Option.{option_map}
use Rattle.std.specs.Str.{bytes_eq}
use Rattle.fx_base.specs.declared.fault.Fault.{Fault}
use Rattle.fx_base.specs.declared.fault.Place.TheVariants as places
use Rattle.fx_base.specs.Fault.{fault_at}
use Rattle.fx_base.specs.Device.{MayBeLeft, MayHaveLeft}
use Rattle.fx_base.specs.Lines.{Lines, text_lines, next_number}
use Rattle.fx_elements.specs.declared.axis.Axis.TheVariants.{Source, Destination, Protocol, SourcePort, DestinationPort, ClassOfService, Version, Source6, Destination6}
use Rattle.fx_elements.specs.Axes.{Fields}
use Rattle.fx_elements.specs.Spelling.{◌>>=◌, largest, number_of}
use Rattle.fx_elements.specs.Words.{Words, words, first_word, number_first, value_first, none_left}
use Rattle.fx_tables.specs.declared.packet.Packet.{Packet}
use Rattle.fx_tables.specs.declared.holder_name.HolderName.{HolderName}
use Rattle.fx_tables.specs.declared.holder_name.HolderName.TheVariants.{Cache, Aggregation}
use Rattle.fx_run_text.specs.declared.step.Step.{Step}
use Rattle.fx_run_text.specs.declared.step.Step.TheVariants as step
use Rattle.fx_run_text.specs.declared.run_line.StepAction.{StepAction}
use Rattle.fx_run_text.specs.declared.run_line.StepAction.TheVariants.{Cross, Expire, Arrive}
use Rattle.fx_run_text.specs.declared.run_line.LastFields.{LastFields}
use Rattle.fx_run_text.specs.declared.text_version.TextVersion.{TextVersion}
use Rattle.fx_run_text.specs.declared.text_version.TextVersion.TheVariants.{One, Two}
use Rattle.fx_run_text.specs.declared.run_line.RunLine.{RunLine}
use Rattle.fx_run_text.specs.declared.run_line.RunLine.TheVariants as line
use Rattle.fx_run_text.specs.declared.run_line.ReadLine.{ReadLine}
use Rattle.fx_run_text.specs.declared.run_line.ReadLine.TheVariants as read
use Rattle.fx_base.specs.Entries.{entry_numbered}
use Rattle.fx_base.specs.Refusals.{long_line, run_header, run_form, run_packet}
use Rattle.fx_tables.specs.Classes.{Class, is_of}
use Rattle.fx_run_text.specs.RunText.{Run}

-- ---- a packet

-- this value, if no word is left
abbrev pub at_end : {A : Type 0} → A → Words → Option A
at_end x ws = if none_left ws then Some x else None

-- the values on the axes after the first six, and the words after them: the first version has packets of IPv4 only
unfoldable pub last_first : TextVersion → Words → Option (LastFields × Words)
last_first One ws = Some (record { version = 4; source = 0; destination = 0 }, ws)
last_first Two ws = do
  version ← value_first Version ws
  source ← value_first Source6 version.1
  destination ← value_first Destination6 source.1
  Some (record { version = version.0; source = source.0; destination = destination.0 }, destination.1)

-- the values on all axes, and the words after them
unfoldable pub fields_first : TextVersion → Words → Option (Fields × Words)
fields_first version ws = do
  source ← value_first Source ws
  destination ← value_first Destination source.1
  protocol ← value_first Protocol destination.1
  source_port ← value_first SourcePort protocol.1
  destination_port ← value_first DestinationPort source_port.1
  service ← value_first ClassOfService destination_port.1
  last ← last_first version service.1
  Some (
    source.0 ∷ destination.0 ∷ protocol.0 ∷ source_port.0 ∷ destination_port.0 ∷ service.0 ∷ last.0.version
        ∷ last.0.source ∷ last.0.destination ∷ [],
    last.1,
  )

-- the packet that all of these words describe, after the word `packet`
unfoldable pub packet_of : TextVersion → Words → Option Packet
packet_of version ws = do
  class ← number_first ws
  path ← number_first class.1
  fields ← fields_first version path.1
  octets ← number_first fields.1
  at_end (record { fields = fields.0; octets = octets.0; class = class.0; path = path.0 }) octets.1

-- ---- a step

unfoldable pub cache_first : Words → Option (HolderName × Words)
cache_first ws = do
  device ← number_first ws
  cache ← number_first device.1
  Some (Cache device.0 cache.0, cache.1)

unfoldable pub aggregation_first : Words → Option (HolderName × Words)
aggregation_first ws = do
  device ← number_first ws
  process ← number_first device.1
  aggregation ← number_first process.1
  Some (Aggregation device.0 process.0 aggregation.0, aggregation.1)

-- a cache or an aggregation, and the words after it
unfoldable pub holder_first : Words → Option (HolderName × Words)
holder_first ws = do
  kind ← first_word ws
  if bytes_eq kind.0 (codes "cache") then cache_first kind.1 else if bytes_eq kind.0 (codes "aggregation")
      then aggregation_first kind.1 else None

unfoldable pub cross_first : Words → Option (StepAction × Words)
cross_first ws = do
  packet ← number_first ws
  crossing ← number_first packet.1
  Some (Cross packet.0 crossing.0, crossing.1)

unfoldable pub expire_first : Words → Option (StepAction × Words)
expire_first ws = do
  holder ← holder_first ws
  position ← number_first holder.1
  Some (Expire holder.0 position.0, position.1)

unfoldable pub arrive_first : Words → Option (StepAction × Words)
arrive_first ws = do
  link ← number_first ws
  position ← number_first link.1
  Some (Arrive link.0 position.0, position.1)

-- the action of this kind
unfoldable pub action_of : List ℕ → Words → Option (StepAction × Words)
action_of kind ws =
    if bytes_eq kind (codes "cross") then cross_first ws
    else if bytes_eq kind (codes "expire") then expire_first ws
    else if bytes_eq kind (codes "arrive") then arrive_first ws
    else None

-- a new record, or the number of a held one
abbrev pub choice_of : List ℕ → Option (Option ℕ)
choice_of word = if bytes_eq word (codes "n") then Some None else option_map (λ n. Some n) (number_of largest word)

-- the choices read so far, followed by those in the words
abbrev pub choices_behind : List (Option ℕ) → Words → Option (List (Option ℕ))
choices_behind choices [] = Some choices
choices_behind choices (w ∷ ws) = choice_of w >>= λ choice. choices_behind (choices ++ choice ∷ []) ws

abbrev pub step_with : StepAction → List (Option ℕ) → Step
step_with (Cross packet crossing) choices = step.Cross packet crossing choices
step_with (Expire holder position) choices = step.Expire holder position choices
step_with (Arrive link position) choices = step.Arrive link position choices

-- the step of this kind that all of these words describe
unfoldable pub step_of : List ℕ → Words → Option Step
step_of kind ws = do
  action ← action_of kind ws
  choices ← choices_behind [] action.1
  Some (step_with action.0 choices)

-- ---- a line

-- what was read from a line, with the packet inserted
abbrev pub line_with : Packet → ReadLine → RunLine
line_with packet read.Packet = line.Packet packet
line_with packet (read.Step s) = line.Step s
line_with packet read.End = line.End

-- the line of this kind: a packet, the end, or a step
unfoldable pub line_of_kind : TextVersion → List ℕ → Words → Option RunLine
line_of_kind version kind ws =
    if bytes_eq kind (codes "packet") then option_map (λ p. line.Packet p) (packet_of version ws)
    else if bytes_eq kind (codes "end") then at_end line.End ws
    else option_map (λ s. line.Step s) (step_of kind ws)

abbrev pub line_of : TextVersion → Words → Option RunLine
line_of version ws = first_word ws >>= λ kind. line_of_kind version kind.0 kind.1

-- ---- a text

-- a line, and whether a line feed ended it
abbrev pub TextLine : Type 0
TextLine = List ℕ × Bool

abbrev pub at_line : ℕ → ℕ → Fault
at_line number n = fault_at number (places.Line n)

abbrev pub well_formed : Option RunLine → Result RunLine ℕ
well_formed None = Err run_form
well_formed (Some x) = Ok x

-- what a line says, or the number of its fault
abbrev pub said : TextVersion → TextLine → Result RunLine ℕ
said version l = if nat_lt 4096 (length l.0) then Err long_line else if l.1 then well_formed
    (line_of version (words l.0)) else Err run_form

abbrev pub no_run : Run
no_run = record { packets = []; steps = [] }

abbrev pub with_packet : Run → Packet → Run
with_packet run p = record { packets = run.packets ++ p ∷ []; steps = run.steps }

abbrev pub with_step : Run → Step → Run
with_step run s = record { packets = run.packets; steps = run.steps ++ s ∷ [] }

-- the fault of a packet line: 855 after a step, 856 if the packet isn't of its class
abbrev pub packet_fault : List Class → Run → Packet → Option ℕ
packet_fault classes run p = if length run.steps == 0
    then (if is_of p (entry_numbered classes p.class) then None else Some run_packet) else Some run_form

-- no line follows the last one, which has the number n
abbrev pub end_of_lines : ℕ → Run → List TextLine → Result Run Fault
end_of_lines n run [] = Ok run
end_of_lines n run (l ∷ ls) = Err (at_line (if nat_lt 4096 (length l.0) then long_line else run_form) (next_number n))

-- the fault of this number at the line n, if there is one
abbrev pub unless : Option ℕ → ℕ → Result Run Fault → Result Run Fault
unless None n result = result
unless (Some number) n result = Err (at_line number n)

-- the run that the line n and those after it complete, where `next` reads those after it
abbrev pub from_line : List Class → ℕ → Run → Result RunLine ℕ → List TextLine → (Run → Result Run Fault)
    → Result Run Fault
from_line classes n run (Err number) ls next = Err (at_line number n)
from_line classes n run (Ok (line.Packet p)) ls next = unless (packet_fault classes run p) n (next (with_packet run p))
from_line classes n run (Ok (line.Step s)) ls next = next (with_step run s)
from_line classes n run (Ok line.End) ls next = end_of_lines n run ls

-- the run that the lines after the line n complete, in this version, or the first fault
abbrev pub behind : TextVersion → List Class → ℕ → Run → List TextLine → Result Run Fault
behind version classes n run [] = Err (at_line run_form (next_number n))
behind version classes n run (l ∷ ls) =
    from_line classes (next_number n) run (said version l) ls (λ r. behind version classes (next_number n) r ls)

-- the run whose text has these lines, the first of which follows the line n, or the first fault
abbrev pub run_in : List Class → ℕ → List TextLine → Result Run Fault
run_in classes n [] = Err (at_line run_form (next_number n))
run_in classes n (l ∷ ls) =
    if nat_lt 4096 (length l.0) then Err (at_line long_line (next_number n))
    else if l.1 && bytes_eq l.0 (codes "once-run 1") then behind One classes (next_number n) no_run ls
    else if l.1 && bytes_eq l.0 (codes "once-run 2") then behind Two classes (next_number n) no_run ls
    else Err (at_line run_header (next_number n))

-- the result of reading a text that the reader of lines may have left
abbrev pub MayReadRun : List Class → Lines → Result Run Fault → Type 0
MayReadRun classes lines result = MayHaveLeft lines.left
    (λ text. run_in classes lines.number (text_lines text) ≡ result)

-- the same for a reader that is after the first line and has read this part of a run, and for one that is after the
-- last line
abbrev pub MayReadBehind : TextVersion → List Class → Lines → Run → Result Run Fault → Type 0
MayReadBehind version classes lines run result =
    MayHaveLeft lines.left (λ text. behind version classes lines.number run (text_lines text) ≡ result)

abbrev pub MayEnd : Lines → Run → Result Run Fault → Type 0
MayEnd lines run result = MayHaveLeft lines.left (λ text. end_of_lines lines.number run (text_lines text) ≡ result)

-- whatever text is left after the first line, reading it amounts to reading a text that may have been left before that
-- line
abbrev pub ReadsFirst : TextVersion → Lines → Lines → Type 0
ReadsFirst version old new =
    (rest : List ℕ) → MayBeLeft new.left rest
    → MayHaveLeft old.left (λ text. (classes : List Class) → run_in classes old.number (text_lines text)
    ≡ behind version classes new.number no_run (text_lines rest))

-- the same for a later line, which says this
abbrev pub ReadsNextLine : TextVersion → Lines → Lines → RunLine → Type 0
ReadsNextLine version old new x =
    (rest : List ℕ) → MayBeLeft new.left rest
    → MayHaveLeft old.left (λ text. (classes : List Class) (run : Run)
    → behind version classes old.number run (text_lines text)
    ≡ from_line classes new.number run (Ok x) (text_lines rest)
    (λ r. behind version classes new.number r (text_lines rest)))

-- the same for the first line and later ones, which together gave this part of a run
abbrev pub ReadsOn : TextVersion → List Class → Lines → Lines → Run → Type 0
ReadsOn version classes old new run =
    (rest : List ℕ) → MayBeLeft new.left rest
    → MayHaveLeft old.left (λ text. run_in classes old.number (text_lines text)
    ≡ behind version classes new.number run (text_lines rest))

-- ---- a text that is read step by step

-- this part of a run was read, followed by this step or, if there is none, by the run's end
abbrev pub ReadsUpTo : TextVersion → List Class → Lines → Lines → Run → Option Step → Type 0
ReadsUpTo version classes old new run None = MayReadRun classes old (Ok run)
ReadsUpTo version classes old new run (Some step) = ReadsOn version classes old new (with_step run step)

-- whatever was read of a run, this step is its next one or, if there is none, the run is complete
abbrev pub ReadsNextStep : TextVersion → Lines → Lines → Option Step → Type 0
ReadsNextStep version old new None = (classes : List Class) (run : Run) → MayReadBehind version classes old run (Ok run)
ReadsNextStep version old new (Some step) = ReadsNextLine version old new (line.Step step)
