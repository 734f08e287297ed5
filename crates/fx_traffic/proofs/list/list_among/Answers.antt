use Rattle.std.proofs.Common.{map}
use Rattle.fx_walk.specs.Lists.{items_faults}
use Rattle.fx_walk.proofs.Faults.{exit}
use Rattle.fx_traffic.proofs.list.list_among.Goals as goal

pub returns-in_err-items : goal.returns-in_err-items
returns-in_err-items g c =
    let faults = g.T.FromValueAmong.faults (map g.D.Named.name c.args.devices.now) in
    exit _ _ _ _ c.from_residual.ensures (c.in_err-items.ensures (λ up ds. items_faults faults up 0 ds))
