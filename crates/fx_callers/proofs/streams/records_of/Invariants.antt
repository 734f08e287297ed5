-- The records so far and those that still wait are those that the stream holds.
use Rattle.std.proofs.Common.{◌≡◌, ◌++◌, length}
use Rattle.fx_session.specs.Streams.{after_piece, start}
use Rattle.fx_callers.proofs.streams.records_of.Given as goal

abbrev pub invariant-loop-record : goal.invariant-loop-record
invariant-loop-record l =
    l.records.items ++ l.session.known.waiting ≡ (after_piece start l.stream).known.waiting

abbrev pub decreases-loop-record : goal.decreases-loop-record
decreases-loop-record l = length l.session.known.waiting
