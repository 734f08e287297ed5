use Rattle.std.proofs.Common.{refl}
use Rattle.fx_walk.proofs.Faults.{exit}
use Rattle.fx_config.specs.Devices.{ipfix_rows}
use Rattle.fx_walk.proofs.RowFaults.{from_rows, no_rows}
use Rattle.fx_config.proofs.ipfix.IpfixFromValue.from_value.Goals as goal

pub returns-in_err-object_of : goal.returns-in_err-object_of
returns-in_err-object_of c =
    exit _ _ _ _ c.from_residual.ensures (c.in_err-object_of.ensures ipfix_rows refl)

pub returns-in_err-device : goal.returns-in_err-device
returns-in_err-device c =
    exit _ _ _ _ c.from_residual-in_err-device.ensures
    (from_rows _ _ _ (c.in_ok-object_of.ensures ipfix_rows refl) c.in_err-device.ensures)

pub returns : goal.returns
returns c = (
  no_rows _ _ (c.in_ok-object_of.ensures ipfix_rows refl) c.in_ok-device.ensures.0,
  rw (c.in_ok-device.ensures.1)
      refl,
)
