use Rattle.std.proofs.Common.{◌≡◌}
use Rattle.fx_session.specs.Messages.{sets_read}
use Rattle.fx_session.specs.Calls.{Grows}
use Rattle.fx_session.proofs.sets.take_sets.Given as goal

-- the sets that are left do to what was read so far what all do to the beginning
abbrev pub invariant-loop-set : goal.invariant-loop-set
invariant-loop-set g l = record {
  same : sets_read (record { templates = l.fn.templates; taken = l.fn.taken }) l.fn.sets
      ≡ sets_read (record { templates = l.templates; taken = l.taken }) l.left;
  grows : Grows l.fn.taken.waiting l.taken.waiting;
}
