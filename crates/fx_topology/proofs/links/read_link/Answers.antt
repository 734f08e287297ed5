use Rattle.std.proofs.Common.{refl}
use Rattle.fx_walk.proofs.RowFaults.{none_more, skip}
use Rattle.fx_walk.proofs.Faults.{exit, refuses_more}
use Rattle.fx_topology.proofs.links.read_link.Goals as goal

pub returns-in_err-device : goal.returns-in_err-device
returns-in_err-device c = exit _ _ _ _ c.from_residual.ensures (refuses_more _ _ _ c.in_err-device.ensures)

pub returns-in_err-exporting : goal.returns-in_err-exporting
returns-in_err-exporting c = exit _ _ _ _ c.from_residual-in_err-exporting.ensures
    (skip _ _ _ c.in_ok-device.ensures.0 (refuses_more _ _ _ c.in_err-exporting.ensures))

pub returns-in_err-destination : goal.returns-in_err-destination
returns-in_err-destination c = exit _ _ _ _ c.from_residual-in_err-destination.ensures
    (skip _ _ _ c.in_ok-device.ensures.0 (skip _ _ _ c.in_ok-exporting.ensures.0
    (refuses_more _ _ _ c.in_err-destination.ensures)))

pub returns-in_err-to_device : goal.returns-in_err-to_device
returns-in_err-to_device c = exit _ _ _ _ c.from_residual-in_err-to_device.ensures
    (skip _ _ _ c.in_ok-device.ensures.0 (skip _ _ _ c.in_ok-exporting.ensures.0
    (skip _ _ _ c.in_ok-destination.ensures.0 (refuses_more _ _ _ c.in_err-to_device.ensures))))

pub returns-in_err-to_process : goal.returns-in_err-to_process
returns-in_err-to_process c = exit _ _ _ _ c.from_residual-in_err-to_process.ensures
    (skip _ _ _ c.in_ok-device.ensures.0 (skip _ _ _ c.in_ok-exporting.ensures.0
    (skip _ _ _ c.in_ok-destination.ensures.0
    (skip _ _ _ c.in_ok-to_device.ensures.0 (refuses_more _ _ _ c.in_err-to_process.ensures)))))

pub returns : goal.returns
returns c = (
  none_more _ _ c.in_ok-device.ensures.0
      (none_more _ _ c.in_ok-exporting.ensures.0
      (none_more _ _ c.in_ok-destination.ensures.0
      (none_more _ _ c.in_ok-to_device.ensures.0 (none_more _ _ c.in_ok-to_process.ensures.0 refl)))),
  rw (
    c.in_ok-device.ensures.1,
    c.in_ok-exporting.ensures.1,
    c.in_ok-destination.ensures.1,
    c.in_ok-to_device.ensures.1,
    c.in_ok-to_process.ensures.1,
  ) refl,
)
