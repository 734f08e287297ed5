use Rattle.std.proofs.Common.{refl}
use Rattle.serde_json.specs.View.{view}
use Rattle.fx_topology.specs.Networks.{network_rows_within, devices_of}
use Rattle.fx_walk.proofs.RowFaults.{from_rows, no_rows, none_more, skip}
use Rattle.fx_walk.proofs.Faults.{exit, refuses_more}
use Rattle.fx_topology.proofs.network.network_at.Goals as goal

pub returns-in_err-object_of : goal.returns-in_err-object_of
returns-in_err-object_of c =
    exit _ _ _ _ c.from_residual.ensures (c.in_err-object_of.ensures
    (network_rows_within c.args.sizes (devices_of (view c.args.value.now)))
    refl)

pub returns-in_err-devices : goal.returns-in_err-devices
returns-in_err-devices c =
    exit _ _ _ _ c.from_residual-in_err-devices.ensures
    (from_rows _ _ _ (c.in_ok-object_of.ensures (network_rows_within c.args.sizes (devices_of (view c.args.value.now)))
    refl)
    (refuses_more _ _ _ c.in_err-devices.ensures))

pub returns-in_err-processes_are_few : goal.returns-in_err-processes_are_few
returns-in_err-processes_are_few c =
    exit _ _ _ _ c.from_residual-in_err-processes_are_few.ensures
    (from_rows _ _ _ (c.in_ok-object_of.ensures (network_rows_within c.args.sizes (devices_of (view c.args.value.now)))
    refl)
    (skip _ _ _ c.in_ok-devices.ensures.0 (refuses_more _ _ _
    (rw (c.as_slice-known.ensures, c.in_ok-devices.ensures.1) at c.in_err-processes_are_few.ensures))))

pub returns-in_err-links : goal.returns-in_err-links
returns-in_err-links c =
    let few = rw (c.as_slice-known.ensures, c.in_ok-devices.ensures.1) at c.in_ok-processes_are_few.ensures in
    exit _ _ _ _ c.from_residual-in_err-links.ensures
    (from_rows _ _ _ (c.in_ok-object_of.ensures (network_rows_within c.args.sizes (devices_of (view c.args.value.now)))
    refl)
    (skip _ _ _ c.in_ok-devices.ensures.0 (skip _ _ _ few.0
    (refuses_more _ _ _ (rw (c.as_slice-known.ensures, c.in_ok-devices.ensures.1) at c.in_err-links.ensures)))))

pub returns-in_err-report : goal.returns-in_err-report
returns-in_err-report c =
    let few = rw (c.as_slice-known.ensures, c.in_ok-devices.ensures.1) at c.in_ok-processes_are_few.ensures in
    let links = rw (c.as_slice-known.ensures, c.in_ok-devices.ensures.1) at c.in_ok-links.ensures in
    exit _ _ _ _ c.from_residual-in_err-report.ensures
    (from_rows _ _ _ (c.in_ok-object_of.ensures (network_rows_within c.args.sizes (devices_of (view c.args.value.now)))
    refl)
    (skip _ _ _ c.in_ok-devices.ensures.0 (skip _ _ _ few.0
    (skip _ _ _ links.0 (refuses_more _ _ _
    (rw (c.as_slice-known.ensures, c.in_ok-devices.ensures.1) at c.in_err-report.ensures))))))

pub returns : goal.returns
returns c =
    let few = rw (c.as_slice-known.ensures, c.in_ok-devices.ensures.1) at c.in_ok-processes_are_few.ensures in
    let links = rw (c.as_slice-known.ensures, c.in_ok-devices.ensures.1) at c.in_ok-links.ensures in
    let report = rw (c.as_slice-known.ensures, c.in_ok-devices.ensures.1) at c.in_ok-report.ensures in (
      no_rows _ _ (c.in_ok-object_of.ensures (network_rows_within c.args.sizes (devices_of (view c.args.value.now)))
          refl)
          (none_more _ _ c.in_ok-devices.ensures.0
          (none_more _ _ few.0 (none_more _ _ links.0 (none_more _ _ report.0 refl)))),
      rw (c.in_ok-devices.ensures.1, links.1, report.1) refl,
    )
