use Rattle.std.proofs.Common.{refl}
use Rattle.fx_walk.proofs.RowFaults.{none_more, skip}
use Rattle.fx_walk.proofs.Faults.{exit, refuses_more}
use Rattle.fx_topology.proofs.report.read_report.Goals as goal

pub returns-in_err-device : goal.returns-in_err-device
returns-in_err-device c = exit _ _ _ _ c.from_residual.ensures (refuses_more _ _ _ c.in_err-device.ensures)

pub returns-in_err-collecting : goal.returns-in_err-collecting
returns-in_err-collecting c = exit _ _ _ _ c.from_residual-in_err-collecting.ensures
    (skip _ _ _ c.in_ok-device.ensures.0 (refuses_more _ _ _ c.in_err-collecting.ensures))

pub returns-in_err-key : goal.returns-in_err-key
returns-in_err-key c = exit _ _ _ _ c.from_residual-in_err-key.ensures
    (skip _ _ _ c.in_ok-device.ensures.0 (skip _ _ _ c.in_ok-collecting.ensures.0
    (refuses_more _ _ _ c.in_err-key.ensures)))

pub returns : goal.returns
returns c = (
  none_more _ _ c.in_ok-device.ensures.0
      (none_more _ _ c.in_ok-collecting.ensures.0 (none_more _ _ c.in_ok-key.ensures.0 refl)),
  rw (c.in_ok-device.ensures.1, c.in_ok-collecting.ensures.1, c.in_ok-key.ensures.1) refl,
)
