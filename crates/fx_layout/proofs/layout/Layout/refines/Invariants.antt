use Rattle.std.proofs.Common.{◌≡◌, true, take}
use Rattle.std.specs.List.{list_all}
use Rattle.fx_layout.specs.Keys.{reads}
use Rattle.fx_layout.proofs.layout.Layout.refines.Given as goal

-- the layout reads the parts so far
abbrev pub invariant-loop-part : goal.invariant-loop-part
invariant-loop-part l = list_all (λ part. reads l.self part.axis part.bits) (take l.part-index l.part-items) ≡ true
