use Rattle.std.proofs.Common.{◌≡◌, ◌≤◌, ◌-◌, length, take, drop}
use Rattle.fx_session.specs.Streams.{read_all, ReadsAll}
use Rattle.fx_session.proofs.session.take_messages.Given as goal

-- what is left to read is what was to be read
abbrev pub invariant-each : goal.invariant-each
invariant-each g l = record {
  bound : l.at ≤ length l.octets;
  before : ReadsAll l.fn.known l.fn.place (take l.at l.octets) l.known l.place;
  same : read_all l.fn.known l.fn.place l.octets ≡ read_all l.known l.place (drop l.at l.octets);
}

abbrev pub decreases-each : goal.decreases-each
decreases-each g l = length l.octets - l.at
