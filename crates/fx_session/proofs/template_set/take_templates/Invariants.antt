use Rattle.std.proofs.Common.{◌≡◌, length}
use Rattle.fx_session.specs.TemplateSets.{template_set}
use Rattle.fx_session.proofs.template_set.take_templates.Given as goal

-- what is left does to the templates so far what all does to those of the beginning
abbrev pub invariant-loop-rest : goal.invariant-loop-rest
invariant-loop-rest g l = template_set l.fn.templates l.kind l.octets ≡ template_set l.templates l.kind l.rest

abbrev pub decreases-loop-rest : goal.decreases-loop-rest
decreases-loop-rest g l = length l.rest
