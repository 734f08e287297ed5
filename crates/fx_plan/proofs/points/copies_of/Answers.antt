use Rattle.std.proofs.Common.{◌∙◌}
use Rattle.std.proofs.lemmas.List.{take_all}
use Rattle.fx_plan.proofs.Loops.{one_kept}
use Rattle.fx_plan.proofs.points.copies_of.Goals as goal

pub loop-name-preserved : goal.loop-name-preserved
loop-name-preserved c =
    one_kept c.args.names.now c.loop-name.name-index c.name-item.result c.in_ok-copy.copy c.loop-name.copies.items _
    c.loop-name-test.true c.name-item.is c.in_ok-copy.ensures c.loop-name.invariant c.in_ok-push.ensures.items

pub returns : goal.returns
returns c = c.loop-name.invariant ∙ take_all c.loop-name.name-index c.args.names.now c.loop-name-test.false
