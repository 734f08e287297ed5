-- A link in the middle of an operation.
use Rattle.std.specs.Prelude.{◌≡◌, ℕ, List, [], ◌++◌, take, drop}
use Rattle.fx_tables.specs.declared.record.Record.{Record}
use Rattle.fx_session.specs.Streams.{SessionState, after_piece}
use Rattle.fx_link.specs.Outgoing.{Outgoing, after_flush, with_all}
use Rattle.fx_link.specs.Wires.{Wire, sent_on}

-- what is being sent, the octets that were put out but not yet carried, and what the receiver has read
pub record Ongoing : Type 0 where
  pub outgoing : Outgoing
  pub queue : List ℕ
  pub receiver : SessionState

-- no record waits for its message, and all octets have been put out
abbrev pub at_rest : Wire → Ongoing
at_rest wire = record {
  outgoing = record { sender = wire.sender; batch = []; octets = [] };
  queue = wire.queue;
  receiver = wire.receiver;
}

-- the octets to be put out, once no record waits
abbrev pub to_put : ℕ → Ongoing → List ℕ
to_put time o = (after_flush time o.outgoing).octets

-- after these octets have been put out
abbrev pub after_finish : ℕ → Ongoing → Ongoing
after_finish time o = record {
  outgoing = record (after_flush time o.outgoing) { octets = [] };
  queue = o.queue ++ to_put time o;
  receiver = o.receiver;
}

-- this number of octets reaches the receiver
abbrev pub after_carry : ℕ → Ongoing → Ongoing
after_carry n o = record o { queue = drop n o.queue; receiver = after_piece o.receiver (take n o.queue) }

-- ---- the law

-- Records that are put on a link in order are sent, once they are put out.
abbrev pub PuttingSends : Type 0
PuttingSends =
    (time : ℕ) (rs : List Record) (wire : Wire)
    → after_finish time (record (at_rest wire) { outgoing = with_all time (at_rest wire).outgoing rs })
    ≡ at_rest (sent_on time rs wire)
