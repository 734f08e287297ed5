use Rattle.std.proofs.Common.{◌≡◌, ◌+◌, map, drop}
use Rattle.fx_wire.specs.Sets.{set_parts}
use Rattle.fx_wire.specs.Writing.{sets_length, message_length}
use Rattle.fx_wire.proofs.put.message_length.Given as goal

abbrev pub invariant-loop-set : goal.invariant-loop-set
invariant-loop-set l = l.sum + sets_length (map set_parts (drop l.set-index l.sets))
    ≡ message_length (map set_parts l.sets)
