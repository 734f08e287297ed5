use Rattle.std.proofs.Common.{◌≡◌, drop}
use Rattle.fx_session.specs.TemplateSets.{has_narrow}
use Rattle.fx_session.proofs.template_set.has_narrow.Given as goal

abbrev pub invariant-loop-field : goal.invariant-loop-field
invariant-loop-field l = has_narrow l.fields ≡ has_narrow (drop l.field-index l.fields)
