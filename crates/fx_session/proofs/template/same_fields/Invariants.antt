use Rattle.std.proofs.Common.{◌≡◌, drop}
use Rattle.fx_session.specs.Templates.{same_fields}
use Rattle.fx_session.proofs.template.same_fields.Given as goal

abbrev pub invariant-loop-index : goal.invariant-loop-index
invariant-loop-index l = same_fields l.a l.b ≡ same_fields (drop l.index l.a) (drop l.index l.b)
