-- Links at times at which nothing is being sent.
use Rattle.std.specs.Prelude.{◌≡◌, ℕ, zero, suc, ◌+◌, ◌^◌, ◌<◌, List, [], ◌++◌, length, take, drop}
use Rattle.std.specs.List.{AllByRecursion}
use Rattle.fx_tables.specs.declared.record.Record.{Record}
use Rattle.fx_session.specs.Streams.{SessionState, start, after_piece, without_waiting}
use Rattle.fx_link.specs.Sending.{Sender, new_sender, IsSender, IsSent, KeepsUp, sent_octets, after_sent}

-- a link: the state of its sender, the octets not yet carried, and what its receiver has read
pub record Wire : Type 0 where
  pub sender : Sender
  pub queue : List ℕ
  pub receiver : SessionState

-- a link that nothing was put on
abbrev pub new_wire : Wire
new_wire = record { sender = new_sender; queue = []; receiver = start }

-- the records on a link: those that the receiver would read if all octets were carried
abbrev pub on_link : Wire → List Record
on_link wire = (after_piece wire.receiver wire.queue).known.waiting

-- this number of octets reaches the receiver, and all records that were read are handled
abbrev pub after_octets : ℕ → Wire → Wire
after_octets zero wire = wire
after_octets (suc n) wire = record wire {
  queue = drop (suc n) wire.queue;
  receiver = without_waiting (after_piece wire.receiver (take (suc n) wire.queue));
}

-- these records are sent, in messages of this export time
abbrev pub sent_on : ℕ → List Record → Wire → Wire
sent_on time rs wire = record wire {
  sender = after_sent wire.sender rs;
  queue = wire.queue ++ sent_octets time wire.sender rs;
}

-- The receiver would read everything put on the link, and has handled everything that it read.
pub record InStep (wire : Wire) : Type 0 where
  pub sender : IsSender wire.sender
  pub keeps_up : KeepsUp wire.sender (after_piece wire.receiver wire.queue)
  pub handled : wire.receiver.known.waiting ≡ []

-- ---- the laws

-- Records that are sent are appended to those on the link.
abbrev pub SendingAdds : Type 0
SendingAdds =
    (time : ℕ) (rs : List Record) (wire : Wire)
    → time < 2 ^ 32 → InStep wire → AllByRecursion IsSent rs → 256 + length (after_sent wire.sender rs).layouts < 2 ^ 16
    → InStep (sent_on time rs wire) × (on_link (sent_on time rs wire) ≡ on_link wire ++ rs)

-- Octets that are carried complete messages, whose records are the first on the link; the other records stay.
abbrev pub CarryingTakes : Type 0
CarryingTakes =
    (n : ℕ) (wire : Wire) → InStep wire
    → InStep (after_octets (suc n) wire)
    × (on_link wire ≡ (after_piece wire.receiver (take (suc n) wire.queue)).known.waiting
    ++ on_link (after_octets (suc n) wire))
