use Rattle.std.proofs.Common.{◌≡◌, drop}
use Rattle.fx_machine.specs.States.{all_empty}
use Rattle.fx_machine.proofs.store.all_empty.Given as goal

abbrev pub invariant-loop-records : goal.invariant-loop-records
invariant-loop-records l = all_empty l.lists ≡ all_empty (drop l.records-index l.lists)
