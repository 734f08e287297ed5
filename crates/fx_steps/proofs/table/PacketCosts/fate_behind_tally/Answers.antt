use Rattle.std.proofs.Common.{◌∙◌, ap, ap₂}
use Rattle.fx_tables.specs.Network.{Net}
use Rattle.fx_leaf.specs.declared.verdict.Fate.{Fate}
use Rattle.fx_steps.specs.declared.costs.Costs.{Costs}
use Rattle.fx_steps.specs.CostTables.{tally_costs}
use Rattle.fx_steps.specs.Spread.{shares}
use Rattle.fx_steps.proofs.table.PacketCosts.fate_behind_tally.Goals as goal

pub returns : goal.returns
returns c =
    ap (λ (p : Fate × Fate). p.1) c.shares.ensures
    ∙ ap₂ (λ (a b : Costs). (shares a b c.args.fate).1)
    (c.tally_costs-here.ensures ∙ ap (λ (x : Net). tally_costs x c.args.layout.now c.args.process) c.net.ensures)
    c.handled_costs_at-others.ensures
