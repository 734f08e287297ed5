-- A stream is a sequence of messages, independent of how its octets are split into pieces.
use Rattle.std.specs.Prelude.{◌≡◌, ◌∷◌, ℕ, zero, suc, ◌+◌, ◌==◌, if◌then◌else◌, min, List, [], ◌++◌, length, take, drop, Option, Some, None, option_map, Result, Ok, Err}
use Rattle.fx_base.specs.Fault.{fault_at}
use Rattle.fx_base.specs.declared.fault.Fault.{Fault}
use Rattle.fx_base.specs.declared.fault.Place.TheVariants as places
use Rattle.fx_base.specs.Refusals.{want_of_memory}
use Rattle.fx_tables.specs.declared.record.Record.{Record}
use Rattle.fx_wire.specs.Messages.{front, needs_more, complete, refusal}
use Rattle.fx_session.specs.Messages.{Known, message_read, without_domains}
use Rattle.fx_session.specs.StreamFaults.{number_of}
use Rattle.fx_session.specs.declared.stream_fault.StreamFault.{StreamFault}
use Rattle.fx_session.specs.declared.stream_fault.StreamFault.TheVariants as faults

-- The abstract state of a session: what it knows, the place of the first octet of the unfinished message, that
-- message's
-- octets, and the number of the fault that it returns from now on.
pub record SessionState : Type 0 where
  pub known : Known
  pub place : ℕ
  pub rest : List ℕ
  pub fault : Option ℕ

abbrev pub start : SessionState
start = record {
  known = record { domains = []; waiting = []; gaps = 0; skipped = 0 };
  place = 0;
  rest = [];
  fault =
      None;
}

-- places saturate at the largest one
abbrev pub place_after : ℕ → ℕ → ℕ
place_after place n = min (place + n) 18446744073709551615

abbrev pub waits : Known → ℕ → List ℕ → SessionState
waits k place octets = record { known = k; place = place; rest = octets; fault = None }

-- Nothing of a refused message is kept, nor of what follows it, nor any template.
abbrev pub fails : Known → ℕ → StreamFault → SessionState
fails k place fault = record { known = without_domains k; place = place; rest = []; fault = Some (number_of fault) }

-- Reading the messages in order. Each message has octets, so the number of octets bounds the turns.
unfoldable pub read_in : ℕ → Known → ℕ → List ℕ → SessionState
read_in zero k place octets = waits k place octets
read_in (suc turns) k place octets = elim (front octets) [
  | needs_more ↦ waits k place octets
  | refusal why ↦ fails k place (faults.Malformed why)
  | complete m ↦ elim (message_read k m) [
    | Ok next ↦
        read_in turns next (place_after place m.octets) (drop m.octets octets)
    | Err fault ↦ fails k place fault
  ]
]

-- reads all complete messages of the octets
unfoldable pub read_all : Known → ℕ → List ℕ → SessionState
read_all k place octets = read_in (length octets) k place octets

-- A piece is appended to the unfinished octets and read. A session that has returned a fault remains unchanged.
abbrev pub after_piece : SessionState → List ℕ → SessionState
after_piece st piece = elim st.fault [ Some number ↦ st | None ↦ read_all st.known st.place (st.rest ++ piece) ]

-- the same with these records waiting first
abbrev pub known_behind : List Record → Known → Known
known_behind records k = record {
  domains = k.domains;
  waiting = records ++ k.waiting;
  gaps = k.gaps;
  skipped =
      k.skipped;
}

abbrev pub behind : List Record → SessionState → SessionState
behind records st = record { known = known_behind records st.known; place = st.place; rest = st.rest; fault = st.fault }

-- a fault's place is the first octet of the refused message; out of memory has no place
abbrev pub fault_of : ℕ → ℕ → Fault
fault_of place number = if number == want_of_memory then fault_at want_of_memory places.None else fault_at number
    (places.Octet place)

abbrev pub answer_of : ℕ → Option ℕ → Result (Unit {0}) Fault
answer_of place None = Ok tt
answer_of place (Some number) = Err (fault_of place number)

-- the messages in these octets are read, and no octet remains
abbrev pub ReadsAll : Known → ℕ → List ℕ → Known → ℕ → Type 0
ReadsAll old place octets new later = read_all old place octets ≡ waits new later []

-- Out of memory: the first messages of the unfinished octets and the piece, some number of them, are read, and then the
-- session stops, as at a refused message.
abbrev pub Starves : SessionState → List ℕ → SessionState → Type 0
Starves old piece new = (count : ℕ) × (read : Known)
    × (ReadsAll old.known old.place (take count (old.rest ++ piece)) read new.place)
    × (new ≡ fails read new.place faults.OutOfMemory)

-- the waiting records are removed
abbrev pub known_without_waiting : Known → Known
known_without_waiting k = record { domains = k.domains; waiting = []; gaps = k.gaps; skipped = k.skipped }

abbrev pub without_waiting : SessionState → SessionState
without_waiting st = record {
  known = known_without_waiting st.known;
  place = st.place;
  rest = st.rest;
  fault =
      st.fault;
}

-- ---- what the code keeps

abbrev pub rest_of : List ℕ → ℕ → Option StreamFault → List ℕ
rest_of octets count None = drop count octets
rest_of octets count (Some fault) = []

-- this number of octets was read, and then this fault occurred, if any
abbrev pub left_by : Known → ℕ → List ℕ → ℕ × Option StreamFault → SessionState
left_by k place octets answer = record {
  known = k;
  place = place;
  rest = rest_of octets answer.0 answer.1;
  fault =
      option_map number_of answer.1;
}

-- if a fault occurred, the messages before it were read, and then all observation domains were dropped
abbrev pub Stops : Known → ℕ → List ℕ → Option StreamFault → Known → ℕ → Type 0
Stops old place octets None new later = Unit {0}
Stops old place octets (Some fault) new later = (read : Known) × (ReadsAll old place octets read later)
    × (new ≡ without_domains read)

-- the first waiting record is removed, if there is one
abbrev pub FirstLeaves : Known → Known → Option Record → Type 0
FirstLeaves old new None = (old.waiting ≡ []) × (new ≡ old)
FirstLeaves old new (Some r) = old ≡ record {
  domains = new.domains;
  waiting = r ∷ new.waiting;
  gaps =
      new.gaps;
  skipped = new.skipped;
}

abbrev pub IsNextRecord : SessionState → SessionState → Option Record → Type 0
IsNextRecord old new None = (old.known.waiting ≡ []) × (new ≡ old)
IsNextRecord old new (Some r) = old ≡ record {
  known = record {
    domains = new.known.domains;
    waiting = r ∷ new.known.waiting;
    gaps = new.known.gaps;
    skipped =
        new.known.skipped;
  };
  place = new.place;
  rest = new.rest;
  fault = new.fault;
}
