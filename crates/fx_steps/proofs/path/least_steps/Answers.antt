use Rattle.std.proofs.Common.{◌∙◌, ap, sym, subst}
use Rattle.fx_steps.specs.declared.costs.Costs.{Costs}
use Rattle.fx_steps.specs.Costs.{Tells}
use Rattle.fx_steps.specs.CostTables.{CostTable, path_costs}
use Rattle.fx_steps.specs.Ways.{PacketComes}
use Rattle.fx_steps.proofs.PathCosts.{least_tell}
use Rattle.fx_steps.proofs.path.least_steps.Goals as goal

pub returns-clause-tells : goal.returns-clause-tells
returns-clause-tells c =
    let t = c.args.tables.now in
    let fields = c.args.packet.now.fields in
    let e = c.path_costs.ensures ∙ ap (λ (rows : CostTable). path_costs rows t.net t.numbering fields c.args.path.now)
    c.fill.ensures in
    subst (λ (x : Costs). Tells x (PacketComes t.net fields c.args.path.now)) (sym e)
    (least_tell t c.requires.tables c.requires.runnable fields c.args.rows.now c.requires.room c.args.path.now)

pub returns-clause-filled : goal.returns-clause-filled
returns-clause-filled c = record { before = c.args.rows.now; room = c.requires.room; filled = c.fill.ensures }
