use Rattle.std.proofs.Common.{◌≡◌, map, take}
use Rattle.fx_wire.specs.Fields.{element_of}
use Rattle.fx_session.proofs.template.elements_of.Given as goal

-- the elements of the fields so far
abbrev pub invariant-loop-field : goal.invariant-loop-field
invariant-loop-field l = l.elements.items ≡ map element_of (take l.field-index l.fields)
