-- Records on their way into messages.
use Rattle.std.specs.Prelude.{◌≡◌, ℕ, true, List, [], ◌∷◌, ◌++◌, if◌then◌else◌}
use Rattle.fx_tables.specs.declared.record.Record.{Record}
use Rattle.fx_link.specs.Sending.{Sender, batch_octets, after_batch, joins, sent_octets, after_sent, Begun, has_room_for}

-- what a sender keeps, and the records that wait for their message
pub record Waiting : Type 0 where
  pub sender : Sender
  pub batch : List Record

-- the waiting records can share a message, and a template id is left for their layout
pub record IsWaiting (w : Waiting) : Type 0 where
  pub batch : Begun w.batch
  pub room : has_room_for w.batch w.sender ≡ true

-- what a sender keeps, the records that wait for their message, and the octets that were written
pub record Outgoing : Type 0 where
  pub sender : Sender
  pub batch : List Record
  pub octets : List ℕ

abbrev pub with_octets : Waiting → List ℕ → Outgoing
with_octets w octets = record { sender = w.sender; batch = w.batch; octets = octets }

-- the waiting records are written as a message, if there are any
abbrev pub after_flush : ℕ → Outgoing → Outgoing
after_flush time o = elim o.batch [
  | [] ↦ o
  | r ∷ rs ↦ record {
    sender = after_batch o.sender o.batch;
    batch = [];
    octets = o.octets ++ batch_octets time o.sender o.batch;
  }
]

-- a record joins the waiting ones; if it can't, their message is written first
abbrev pub with_one : ℕ → Outgoing → Record → Outgoing
with_one time o r =
    if joins o.batch r then record o { batch = o.batch ++ r ∷ [] } else record (after_flush time o) { batch = r ∷ [] }

abbrev pub with_all : ℕ → Outgoing → List Record → Outgoing
with_all time o [] = o
with_all time o (r ∷ rs) = with_all time (with_one time o r) rs

-- Records that are put in order, and then flushed, yield the messages of records that are sent together.
abbrev pub FlushesAreSent : Type 0
FlushesAreSent =
    (time : ℕ) (s : Sender) (octets : List ℕ) (rs : List Record)
    → after_flush time (with_all time (record { sender = s; batch = []; octets = octets }) rs)
    ≡ record { sender = after_sent s rs; batch = []; octets = octets ++ sent_octets time s rs }
