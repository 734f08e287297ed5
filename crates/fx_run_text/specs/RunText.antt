-- The text of a run.
use Rattle.std.specs.Prelude.{◌≡◌, ℕ, ◌≤◌, List, [], ◌∷◌, ◌++◌, map, length, flat_map, codes, decimal, Option, Some, None, IfSome}
use Rattle.std.specs.List.{AllByRecursion, join_with_byte}
use Rattle.fx_elements.specs.Axes.{Fields, field, axes, axis_count}
use Rattle.fx_elements.specs.Values.{value_text}
use Rattle.fx_elements.specs.Spelling.{largest}
use Rattle.fx_boxes.specs.Boxes.{IsFields}
use Rattle.fx_elements.specs.declared.axis.Axis.{Axis}
use Rattle.fx_elements.specs.declared.axis.Axis.TheVariants.{Source, Destination, Protocol, SourcePort, DestinationPort, ClassOfService, Version, Source6, Destination6}
use Rattle.fx_run_text.specs.declared.text_version.TextVersion.{TextVersion}
use Rattle.fx_run_text.specs.declared.text_version.TextVersion.TheVariants.{One, Two}
use Rattle.fx_tables.specs.declared.packet.Packet.{Packet}
use Rattle.fx_tables.specs.declared.holder_name.HolderName.{HolderName}
use Rattle.fx_tables.specs.declared.holder_name.HolderName.TheVariants.{Cache, Aggregation}
use Rattle.fx_run_text.specs.declared.step.Step.{Step}
use Rattle.fx_run_text.specs.declared.step.Step.TheVariants.{Cross, Expire, Arrive}
use Rattle.fx_base.specs.Entries.{entry_numbered}
use Rattle.fx_tables.specs.Classes.{Class, IsOf}

-- a run: its packets and its steps
pub record Run : Type 0 where
  pub packets : List Packet
  pub steps : List Step

-- ---- the words of its lines

-- the axes in a packet's line: in the first version those of IPv4, in the second all
abbrev pub line_axes : TextVersion → List Axis
line_axes One = Source ∷ Destination ∷ Protocol ∷ SourcePort ∷ DestinationPort ∷ ClassOfService ∷ []
line_axes Two = axes

-- a new record, or the number of a held one
abbrev pub choice_word : Option ℕ → List ℕ
choice_word None = codes "n"
choice_word (Some n) = decimal n

-- a value on each of these axes, in order: addresses as dotted quads or eight groups, others as numbers
abbrev pub field_words : TextVersion → Fields → List (List ℕ)
field_words version fields = map (λ axis. value_text axis (field fields axis)) (line_axes version)

abbrev pub packet_words : TextVersion → Packet → List (List ℕ)
packet_words version p = codes "packet" ∷ decimal p.class ∷ decimal p.path
    ∷ (field_words version p.fields ++ decimal p.octets ∷ [])

abbrev pub holder_words : HolderName → List (List ℕ)
holder_words (Cache device cache) = codes "cache" ∷ decimal device ∷ decimal cache ∷ []
holder_words (Aggregation device process aggregation) = codes "aggregation" ∷ decimal device ∷ decimal process
    ∷ decimal aggregation ∷ []

abbrev pub step_words : Step → List (List ℕ)
step_words (Cross packet crossing choices) = codes "cross" ∷ decimal packet ∷ decimal crossing ∷ map choice_word choices
step_words (Expire holder position choices) = codes "expire"
    ∷ (holder_words holder ++ decimal position ∷ map choice_word choices)
step_words (Arrive link position choices) = codes "arrive" ∷ decimal link ∷ decimal position ∷ map choice_word choices

abbrev pub first_words : TextVersion → List (List ℕ)
first_words One = codes "once-run" ∷ codes "1" ∷ []
first_words Two = codes "once-run" ∷ codes "2" ∷ []

abbrev pub last_words : List (List ℕ)
last_words = codes "end" ∷ []

-- ---- its text

-- its lines: the first, one for each packet, one for each step, and the last
abbrev pub run_lines : TextVersion → Run → List (List ℕ)
run_lines version run = map (join_with_byte 32)
    (first_words version ∷ (map (packet_words version) run.packets ++ (map step_words run.steps ++ last_words ∷ [])))

-- a line feed ends each line
abbrev pub lines_text : List (List ℕ) → List ℕ
lines_text lines = flat_map (λ line. line ++ 10 ∷ []) lines

abbrev pub run_text : TextVersion → Run → List ℕ
run_text version run = lines_text (run_lines version run)

-- ---- what has a text

abbrev pub IsNumber : ℕ → Type 0
IsNumber n = n ≤ largest

abbrev pub AreChoices : List (Option ℕ) → Type 0
AreChoices choices = AllByRecursion (λ choice. IfSome choice IsNumber) choices

abbrev pub IsHolderName : HolderName → Type 0
IsHolderName (Cache device cache) = IsNumber device × IsNumber cache
IsHolderName (Aggregation device process aggregation) = IsNumber device × IsNumber process × IsNumber aggregation

abbrev pub IsStep : Step → Type 0
IsStep (Cross packet crossing choices) = IsNumber packet × IsNumber crossing × AreChoices choices
IsStep (Expire holder position choices) = IsHolderName holder × IsNumber position × AreChoices choices
IsStep (Arrive link position choices) = IsNumber link × IsNumber position × AreChoices choices

-- a value on each axis, and numbers
abbrev pub IsPacket : Packet → Type 0
IsPacket p = (length p.fields ≡ axis_count) × IsFields p.fields × IsNumber p.class × IsNumber p.path × IsNumber p.octets

-- the first version has packets of IPv4 only
abbrev pub CanSay : TextVersion → Fields → Type 0
CanSay One fields = (field fields Version ≡ 4) × (field fields Source6 ≡ 0) × (field fields Destination6 ≡ 0)
CanSay Two fields = Unit {0}

abbrev pub IsPacketOf : TextVersion → List Class → Packet → Type 0
IsPacketOf version classes p = IsPacket p × CanSay version p.fields × IsOf p (entry_numbered classes p.class)

-- each packet is of its class
pub record IsWritableRun (version : TextVersion) (classes : List Class) (run : Run) : Type 0 where
  pub packets : AllByRecursion (IsPacketOf version classes) run.packets
  pub steps : AllByRecursion IsStep run.steps

-- no line has more than 4,096 bytes
abbrev pub AreShort : List (List ℕ) → Type 0
AreShort lines = AllByRecursion (λ line. length line ≤ 4096) lines
