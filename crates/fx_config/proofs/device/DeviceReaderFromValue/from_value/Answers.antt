use Rattle.std.proofs.Common.{refl}
use Rattle.fx_config.specs.Devices.{device_rows, device_faults, device_of}
use Rattle.fx_walk.proofs.RowFaults.{from_rows, no_rows, none_more}
use Rattle.fx_walk.proofs.Faults.{exit, refuses_more}
use Rattle.fx_config.proofs.device.DeviceReaderFromValue.from_value.Goals as goal

pub returns-in_err-document_of : goal.returns-in_err-document_of
unfolding device_faults device_of
returns-in_err-document_of c =
    exit _ _ _ _ c.from_residual.ensures (c.in_err-document_of.ensures (device_rows) refl)

pub returns-in_err-ipfix : goal.returns-in_err-ipfix
unfolding device_faults device_of
returns-in_err-ipfix c =
    exit _ _ _ _ c.from_residual-in_err-ipfix.ensures
    (from_rows _ _ _ (c.in_ok-document_of.ensures (device_rows) refl) (refuses_more _ _ _ c.in_err-ipfix.ensures))

pub returns : goal.returns
unfolding device_faults device_of
returns c = (
  no_rows _ _ (c.in_ok-document_of.ensures (device_rows) refl) (none_more _ _ c.in_ok-ipfix.ensures.0 refl),
  rw (c.in_ok-ipfix.ensures.1) refl,
)
