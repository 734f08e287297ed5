use Rattle.std.proofs.Common.{IfOk, sym, subst}
use Rattle.fx_steps.specs.declared.pending.Pending.{Pending}
use Rattle.fx_steps.specs.UnderWay.{TopLeaves}
use Rattle.fx_steps.proofs.building.Building.step_of.Goals as goal

pub returns-in-AtHolder-clause-leaves : goal.returns-in-AtHolder-clause-leaves
returns-in-AtHolder-clause-leaves c =
    subst (λ (x : Pending). IfOk c.leave_holder.result
    (TopLeaves c.args.costs.now c.args.self.now c.leave_holder.new.self x)) (sym c.in-AtHolder.is)
    c.leave_holder.ensures.leaves
