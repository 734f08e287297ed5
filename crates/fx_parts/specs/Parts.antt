-- Parts of a network, each with a declaration of traffic and a certificate of its own.
use Rattle.std.specs.Prelude.{◌≡◌, ℕ, true, List, map, length, Option, Some, None, slice_get}
use Rattle.fx_elements.specs.Axes.{Fields}
use Rattle.fx_boxes.specs.Boxes.{Bounds, holds}
use Rattle.fx_tables.specs.declared.traffic.Crossing.{Crossing}
use Rattle.fx_base.specs.Entries.{entry_numbered}
use Rattle.fx_tables.specs.Network.{Net}
use Rattle.fx_tables.specs.Classes.{Class}
use Rattle.fx_tables.specs.Ranks.{IsNetwork}
use Rattle.fx_check.specs.Declarations.{IsCertified}
use Rattle.fx_parts.specs.Meaning.{Sending, Holding, AggregationHandling, Handling, Metering, handling_of, meterings, taken_by}

-- ---- collecting processes by their places in the whole

-- the place in the whole of a collecting process of the part, if there is one: the list has the place of each
abbrev pub lead_in : List ℕ → Option ℕ → Option ℕ
lead_in places None = None
lead_in places (Some process) = slice_get places process

abbrev pub sending_in : List ℕ → Sending → Sending
sending_in places s = record { parallel = s.parallel; leads = map (lead_in places) s.leads }

abbrev pub holding_in : List ℕ → Holding → Holding
holding_in places h = record { layout = h.layout; sendings = map (sending_in places) h.sendings }

abbrev pub taking_in : List ℕ → AggregationHandling → AggregationHandling
taking_in places t = record { matches = t.matches; holding = holding_in places t.holding }

abbrev pub handling_in : List ℕ → Handling → Handling
handling_in places h = record {
  sendings = map (sending_in places) h.sendings;
  takings =
      map (taking_in places) h.takings;
}

abbrev pub metering_in : List ℕ → Metering → Metering
metering_in places m = record { region = m.region; holding = holding_in places m.holding }

-- ---- parts

-- each collecting process of the part has a place in the whole, and the process at that place does the same with a
-- record; the report is the same, with the same layout
pub record IsPart (part whole : Net) (places : List ℕ) : Type 0 where
  pub each : length places ≡ length part.processes
  pub same : (process place : ℕ) → slice_get places process ≡ Some place
      → handling_of whole (slice_get whole.processes place)
      ≡ handling_in places (handling_of part (slice_get part.processes process))
  pub report : slice_get places part.report ≡ Some whole.report
  pub report_only : (process : ℕ) → slice_get places process ≡ Some whole.report → process ≡ part.report
  pub report_layout : part.report_layout ≡ whole.report_layout

-- a packet passes the same selection processes on a path of the part as on a path of the whole
abbrev pub MetersTheSame : Net → Net → List ℕ → List Crossing → List Crossing → Type 0
MetersTheSame part whole places inner outer = meterings whole outer ≡ map (metering_in places) (meterings part inner)

-- the same caches meter each packet of a region, even if selection processes that select no packet of the region
-- are left out
abbrev pub TakesInTheSame : Net → Net → List ℕ → Bounds → List Crossing → List Crossing → Type 0
TakesInTheSame part whole places region inner outer =
    (fields : Fields) → holds region fields ≡ true → taken_by whole outer fields
    ≡ map (holding_in places) (taken_by part inner fields)

-- ---- parts with certificates

-- a part, the places of its collecting processes in the whole, and a declaration of traffic over it
pub record Part : Type 0 where
  pub net : Net
  pub places : List ℕ
  pub classes : List Class

pub record IsCertifiedPart (whole : Net) (part : Part) : Type 0 where
  pub network : IsNetwork part.net
  pub within : IsPart part.net whole part.places
  pub certified : IsCertified part.net part.classes

-- the part covers a path of a class of the whole: by a path of one of its own classes, which has the same packets
pub record CoversPath (whole : Net) (class : Class) (outer : List Crossing) (part : Part) : Type 0 where
  pub class_number : ℕ
  pub path_number : ℕ
  pub inside : Class
  pub inner : List Crossing
  pub is_class : entry_numbered part.classes class_number ≡ Some inside
  pub is_path : entry_numbered inside.paths path_number ≡ Some inner
  pub region : inside.region ≡ class.region
  pub exempt : inside.exempt ≡ class.exempt
  pub takes : TakesInTheSame part.net whole part.places class.region inner outer

-- one of the parts covers each path of each class
abbrev pub AllCovered : Net → List Class → List Part → Type 0
AllCovered whole classes parts =
    (c m : ℕ) (class : Class) (path : List Crossing) → entry_numbered classes c ≡ Some class
    → entry_numbered class.paths m ≡ Some path → (n : ℕ) × (part : Part) × (slice_get parts n ≡ Some part)
    × CoversPath whole class path part

abbrev pub AllCertifiedParts : Net → List Part → Type 0
AllCertifiedParts whole parts = (n : ℕ) (part : Part) → slice_get parts n ≡ Some part → IsCertifiedPart whole part

-- ---- a class of a part that covers all paths of a class of the whole

-- the same number of paths, on each of which a packet passes the same selection processes as on the path with the same
-- number
pub record PathsAlike (part whole : Net) (places : List ℕ) (inner outer : List (List Crossing)) : Type 0 where
  pub as_many : length inner ≡ length outer
  pub same : (k : ℕ) (path : List Crossing) → slice_get outer k ≡ Some path → (other : List Crossing)
      × (slice_get inner k ≡ Some other) × MetersTheSame part whole places other path

pub record ClassesAlike (part whole : Net) (places : List ℕ) (inside class : Class) : Type 0 where
  pub region : inside.region ≡ class.region
  pub exempt : inside.exempt ≡ class.exempt
  pub paths : PathsAlike part whole places inside.paths class.paths

-- a class of one of the parts covers all paths of a class of the whole
pub record IsCovered (whole : Net) (class : Class) (parts : List Part) : Type 0 where
  pub place : ℕ
  pub part : Part
  pub number : ℕ
  pub inside : Class
  pub is_part : slice_get parts place ≡ Some part
  pub is_class : entry_numbered part.classes number ≡ Some inside
  pub alike : ClassesAlike part.net whole part.places inside class

-- a certified part, wherever it is in the whole
pub record IsCertifiedAlone (part : Part) : Type 0 where
  pub network : IsNetwork part.net
  pub certified : IsCertified part.net part.classes
