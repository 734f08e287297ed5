use Rattle.std.proofs.Common.{map, []}
use Rattle.fx_walk.specs.Lists.{entries_faults}
use Rattle.fx_traffic.specs.Classes.{class_faults, class_name}
use Rattle.fx_walk.proofs.Faults.{exit}
use Rattle.fx_traffic.proofs.class.read_list.Goals as goal

pub returns-in_err-items : goal.returns-in_err-items
returns-in_err-items g c = exit _ _ _ _ c.from_residual.ensures
    (c.in_err-items.ensures (λ up ds. entries_faults (class_faults (map g.T.Named.name c.args.devices.now)) class_name
    [] up 0 ds))
