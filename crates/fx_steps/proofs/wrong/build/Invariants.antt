use Rattle.std.proofs.Common.{◌≡◌, ◌+◌, suc, List, [], length, drop}
use Rattle.fx_leaf.specs.declared.verdict.Fate.{Fate}
use Rattle.fx_leaf.specs.Fates.{both}
use Rattle.fx_tables.specs.Classes.{Class, path}
use Rattle.fx_machine.specs.States.{crossings_from}
use Rattle.fx_steps.specs.Costs.{cost_of}
use Rattle.fx_steps.specs.CostTables.{path_costs}
use Rattle.fx_steps.specs.UnderWay.{UnderWay}
use Rattle.fx_steps.specs.Waiting.{Wait}
use Rattle.fx_steps.proofs.wrong.build.Given as goal

abbrev pub invariant-loop-number : goal.invariant-loop-number
invariant-loop-number l =
    let net = l.costs.tables.net in
    let n = l.costs.tables.numbering in
    (l.building.plan.pending.items ≡ [])
    × Wait net [] l.building.waiting
    × (length l.building.steps.items + cost_of
    (path_costs l.costs.table net n l.costs.packet.fields (drop l.number l.path)) l.left
    ≡ cost_of (path_costs l.costs.table net n l.costs.packet.fields l.path) l.fn.fate)
    × ((classes : List Class) → path classes l.costs.packet ≡ l.path → (f : Fate) × (both f l.left ≡ l.fn.fate)
    × UnderWay net n classes l.costs.packet (crossings_from 1 (suc l.number) (drop l.number l.path)) f
    l.building.steps.items [])
