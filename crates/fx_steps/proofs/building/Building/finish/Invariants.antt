use Rattle.std.proofs.Common.{◌≡◌, ◌+◌, List, length}
use Rattle.fx_leaf.specs.declared.verdict.Fate.{Fate}
use Rattle.fx_tables.specs.Classes.{Class}
use Rattle.fx_machine.specs.States.{Coming}
use Rattle.fx_steps.specs.Planning.{total_cost}
use Rattle.fx_steps.specs.UnderWay.{UnderWay, CanLeave}
use Rattle.fx_steps.proofs.building.Building.finish.Given as goal

abbrev pub invariant-loop-top : goal.invariant-loop-top
invariant-loop-top l =
    let net = l.costs.tables.net in
    let n = l.costs.tables.numbering in
    CanLeave l.costs.table net n (length l.self.steps.items) l.self.plan.pending.items l.self.waiting
    × (length l.self.steps.items + total_cost l.costs.table net n l.self.plan.pending.items
    ≡ length l.initial.self.steps.items + total_cost l.costs.table net n l.initial.self.plan.pending.items)
    × ((classes : List Class) (coming : List Coming) (f : Fate)
    → UnderWay net n classes l.costs.packet coming f l.initial.self.steps.items l.initial.self.plan.pending.items
    → UnderWay net n classes l.costs.packet coming f l.self.steps.items l.self.plan.pending.items)

abbrev pub decreases-loop-top : goal.decreases-loop-top
decreases-loop-top l = total_cost l.costs.table l.costs.tables.net l.costs.tables.numbering l.self.plan.pending.items
