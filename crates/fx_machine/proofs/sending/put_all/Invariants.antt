use Rattle.std.proofs.Common.{◌≡◌, take}
use Rattle.fx_machine.specs.Sends.{put_all}
use Rattle.fx_machine.proofs.sending.put_all.Given as goal

abbrev pub invariant-loop-done : goal.invariant-loop-done
invariant-loop-done l = l.carried.items ≡ put_all (take l.done l.links) l.entry l.initial.carried.items
