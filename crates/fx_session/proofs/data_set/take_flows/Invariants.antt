use Rattle.std.proofs.Common.{◌≡◌, length}
use Rattle.fx_session.specs.DataSets.{flow_set}
use Rattle.fx_session.specs.Calls.{Grows}
use Rattle.fx_session.proofs.data_set.take_flows.Given as goal

-- what is left does to what was taken so far what all does to that of the beginning
abbrev pub invariant-loop-rest : goal.invariant-loop-rest
invariant-loop-rest l = record {
  same : flow_set l.template.fields l.fn.taken l.octets ≡ flow_set l.template.fields l.taken l.rest;
  grows : Grows l.fn.taken.waiting l.taken.waiting;
}

abbrev pub decreases-loop-rest : goal.decreases-loop-rest
decreases-loop-rest l = length l.rest
