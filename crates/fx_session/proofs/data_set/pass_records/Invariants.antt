use Rattle.std.proofs.Common.{◌≡◌, length}
use Rattle.fx_session.specs.DataSets.{option_set}
use Rattle.fx_session.specs.Calls.{Grows}
use Rattle.fx_session.proofs.data_set.pass_records.Given as goal

-- what is left does to what was taken so far what all does to that of the beginning
abbrev pub invariant-loop-rest : goal.invariant-loop-rest
invariant-loop-rest l = record {
  same : option_set l.template.fields l.fn.taken l.octets ≡ option_set l.template.fields l.taken l.rest;
  grows : Grows l.fn.taken.waiting l.taken.waiting;
}

abbrev pub decreases-loop-rest : goal.decreases-loop-rest
decreases-loop-rest l = length l.rest
