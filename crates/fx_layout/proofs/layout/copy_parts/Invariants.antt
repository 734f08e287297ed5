use Rattle.std.proofs.Common.{◌≡◌, take}
use Rattle.fx_layout.proofs.layout.copy_parts.Given as goal

abbrev pub invariant-loop-part : goal.invariant-loop-part
invariant-loop-part l = l.into.items ≡ take l.part-index l.parts
