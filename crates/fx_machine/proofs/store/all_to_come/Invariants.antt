use Rattle.std.proofs.Common.{◌≡◌, take}
use Rattle.fx_machine.specs.Comings.{marks_of}
use Rattle.fx_machine.proofs.store.all_to_come.Given as goal

abbrev pub invariant-loop-packet : goal.invariant-loop-packet
invariant-loop-packet l = l.to_come.items ≡ marks_of l.classes (take l.packet-index l.packets)
