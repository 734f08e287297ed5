use Rattle.fx_run_text.specs.declared.step.Step.TheVariants.{Cross, Expire, Arrive}
use Rattle.fx_leaf.proofs.Headline.{opens_law, opens_modulo_law, sized_law, kept_law, ends_law}
use Rattle.fx_leaf.proofs.laws.conservation.Goals as goal

pub returns-clause-opens : goal.returns-clause-opens
returns-clause-opens c = opens_law

pub returns-clause-opens_modulo : goal.returns-clause-opens_modulo
returns-clause-opens_modulo c = opens_modulo_law

pub returns-clause-sized : goal.returns-clause-sized
returns-clause-sized c = sized_law

pub returns-clause-cross : goal.returns-clause-cross
returns-clause-cross c net classes packet crossing choices = kept_law net classes (Cross packet crossing choices)

pub returns-clause-expire : goal.returns-clause-expire
returns-clause-expire c net classes holder number choices = kept_law net classes (Expire holder number choices)

pub returns-clause-arrive : goal.returns-clause-arrive
returns-clause-arrive c net classes link number choices = kept_law net classes (Arrive link number choices)

pub returns-clause-ends : goal.returns-clause-ends
returns-clause-ends c = ends_law
