use Rattle.std.proofs.Common.{◌++◌, ◌∙◌, ap, take, List, [], ◌∷◌}
use Rattle.fx_link.specs.Ongoing.{Ongoing, at_rest}
use Rattle.fx_link.specs.Wires.{new_wire}
use Rattle.fx_net.specs.Opening.{new_links}
use Rattle.fx_net.proofs.HoldersInOrder.{made_new, same_more}
use Rattle.fx_net.proofs.opening.links_of.Goals as goal

pub loop-process-preserved : goal.loop-process-preserved
loop-process-preserved c =
    c.in_ok-push.ensures.items
    ∙ ap (λ (xs : List Ongoing). xs ++ c.in_ok-new.field-0 ∷ []) c.loop-process.invariant
    ∙ ap (λ (o : Ongoing). new_links (take c.loop-process._process-index c.args.processes.now) ++ o ∷ [])
    (made_new c.in_ok-new.field-0 c.in_ok-new.ensures)
    ∙ same_more (at_rest new_wire) c.args.processes.now c.loop-process._process-index c.loop-process-test.true
