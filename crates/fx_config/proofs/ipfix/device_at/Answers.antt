use Rattle.std.proofs.Common.{refl, drop}
use Rattle.serde_json.specs.View.{view}
use Rattle.fx_walk.specs.Pointer.{pointer}
use Rattle.fx_walk.proofs.Faults.{exit, refuses_more}
use Rattle.fx_config.specs.Devices.{ipfix_rows, list_rows}
use Rattle.fx_walk.proofs.RowFaults.{from_rows, none_more, no_rows, rows_before, skip}
use Rattle.fx_config.proofs.ipfix.device_at.Goals as goal

pub returns-in_err-device : goal.returns-in_err-device
returns-in_err-device c =
    exit _ _ _ _ c.from_residual.ensures (from_rows _ _ _
    (rows_before list_rows (drop 5 ipfix_rows) (pointer c.args.path.now) (view c.args.value.now))
    (refuses_more _ _ _ c.in_err-device.ensures))

pub returns-in_err-answer : goal.returns-in_err-answer
returns-in_err-answer c =
    exit _ _ _ _ c.from_residual-in_err-answer.ensures
    (from_rows _ _ _ (rows_before list_rows (drop 5 ipfix_rows) (pointer c.args.path.now) (view c.args.value.now))
    (skip _ _ _ c.in_ok-device.ensures.0 (refuses_more _ _ _
    (rw (c.in_ok-device.ensures.1) at c.in_err-answer.ensures))))

pub returns : goal.returns
returns c =
    let refers = rw (c.in_ok-device.ensures.1) at c.in_ok-answer.ensures in (
      no_rows _ _ (rows_before list_rows (drop 5 ipfix_rows) (pointer c.args.path.now) (view c.args.value.now))
          (none_more _ _ c.in_ok-device.ensures.0 (none_more _ _ refers.0 refl)),
      rw (c.in_ok-device.ensures.1) refl,
    )
