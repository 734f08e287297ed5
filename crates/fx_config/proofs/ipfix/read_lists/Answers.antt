use Rattle.std.proofs.Common.{refl, drop}
use Rattle.serde_json.specs.View.{view}
use Rattle.fx_walk.specs.Pointer.{pointer}
use Rattle.fx_walk.proofs.Faults.{exit, refuses_more}
use Rattle.fx_config.specs.Devices.{list_rows, referred_rows}
use Rattle.fx_walk.proofs.RowFaults.{from_rows, none_more, no_rows, rows_before, skip}
use Rattle.fx_config.proofs.ipfix.read_lists.Goals as goal

pub returns-in_err-points : goal.returns-in_err-points
returns-in_err-points c = exit _ _ _ _ c.from_residual.ensures (refuses_more _ _ _ c.in_err-points.ensures)

pub returns-in_err-referred : goal.returns-in_err-referred
returns-in_err-referred c =
    exit _ _ _ _ c.from_residual-in_err-referred.ensures
    (skip _ _ _ c.in_ok-points.ensures.0 (from_rows _ _ _
    (rows_before referred_rows (drop 4 list_rows) (pointer c.args.path.now) (view c.args.value.now))
    (refuses_more _ _ _ c.in_err-referred.ensures)))

pub returns-in_err-collecting : goal.returns-in_err-collecting
returns-in_err-collecting c =
    exit _ _ _ _ c.from_residual-in_err-collecting.ensures
    (skip _ _ _ c.in_ok-points.ensures.0 (from_rows _ _ _
    (rows_before referred_rows (drop 4 list_rows) (pointer c.args.path.now) (view c.args.value.now))
    (skip _ _ _ c.in_ok-referred.ensures.0 (refuses_more _ _ _ c.in_err-collecting.ensures))))

pub returns : goal.returns
returns c = (
  none_more _ _ c.in_ok-points.ensures.0
      (no_rows _ _ (rows_before referred_rows (drop 4 list_rows) (pointer c.args.path.now) (view c.args.value.now))
      (none_more _ _ c.in_ok-referred.ensures.0 (none_more _ _ c.in_ok-collecting.ensures.0 refl))),
  rw (c.with.ensures, c.in_ok-points.ensures.1, c.in_ok-referred.ensures.1, c.in_ok-collecting.ensures.1) refl,
)
