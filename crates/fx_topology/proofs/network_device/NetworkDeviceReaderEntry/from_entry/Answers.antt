use Rattle.std.proofs.Common.{refl}
use Rattle.fx_topology.specs.NetworkDevices.{network_device_rows}
use Rattle.fx_walk.proofs.RowFaults.{from_rows, no_rows, none_more, skip}
use Rattle.fx_walk.proofs.Faults.{exit, refuses_more}
use Rattle.fx_topology.proofs.network_device.NetworkDeviceReaderEntry.from_entry.Goals as goal

pub returns-in_err-object_of-clause-reads : goal.returns-in_err-object_of-clause-reads
returns-in_err-object_of-clause-reads c =
    exit _ _ _ _ c.from_residual.ensures (c.in_err-object_of.ensures (network_device_rows c.args.earlier.now) refl)

pub returns-in_err-name-clause-reads : goal.returns-in_err-name-clause-reads
returns-in_err-name-clause-reads c =
    exit _ _ _ _ c.from_residual-in_err-name.ensures
    (from_rows _ _ _ (c.in_ok-object_of.ensures (network_device_rows c.args.earlier.now) refl)
    (refuses_more _ _ _ c.in_err-name.ensures.reads))

pub returns-in_err-config-clause-reads : goal.returns-in_err-config-clause-reads
returns-in_err-config-clause-reads c =
    exit _ _ _ _ c.from_residual-in_err-config.ensures
    (from_rows _ _ _ (c.in_ok-object_of.ensures (network_device_rows c.args.earlier.now) refl)
    (skip _ _ _ c.in_ok-name.ensures.reads.0 (refuses_more _ _ _ c.in_err-config.ensures)))

pub returns-clause-reads : goal.returns-clause-reads
returns-clause-reads c = (
  no_rows _ _ (c.in_ok-object_of.ensures (network_device_rows c.args.earlier.now) refl)
      (none_more _ _ c.in_ok-name.ensures.reads.0 (none_more _ _ c.in_ok-config.ensures.0 refl)),
  rw (c.in_ok-name.ensures.reads.1, c.in_ok-config.ensures.1) refl,
)
