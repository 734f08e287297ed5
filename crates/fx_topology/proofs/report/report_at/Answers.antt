use Rattle.std.proofs.Common.{refl, ◌∙◌, drop}
use Rattle.serde_json.specs.View.{view}
use Rattle.fx_walk.specs.Pointer.{pointer}
use Rattle.fx_walk.proofs.Faults.{exit, refuses_more}
use Rattle.fx_topology.specs.Reports.{member_rows, report_rows}
use Rattle.fx_walk.proofs.RowFaults.{from_rows, none_more, no_rows, rows_before, skip}
use Rattle.fx_topology.proofs.report.report_at.Goals as goal

pub returns-in_err-object_of : goal.returns-in_err-object_of
returns-in_err-object_of c =
    exit _ _ _ _ c.from_residual.ensures (c.in_err-object_of.ensures (report_rows c.args.devices.now) refl)

pub returns-in_err-report : goal.returns-in_err-report
returns-in_err-report c =
    let up = pointer c.args.path.now in
    let d = view c.args.value.now in
    let rows = report_rows c.args.devices.now in
    exit _ _ _ _ c.from_residual-in_err-report.ensures
    (from_rows _ _ _ (c.in_ok-object_of.ensures rows refl ∙ rows_before member_rows (drop 3 rows) up d)
    (refuses_more _ _ _ c.in_err-report.ensures))

pub returns-in_err-process_is_there : goal.returns-in_err-process_is_there
returns-in_err-process_is_there c =
    let up = pointer c.args.path.now in
    let d = view c.args.value.now in
    let rows = report_rows c.args.devices.now in
    exit _ _ _ _ c.from_residual-in_err-process_is_there.ensures
    (from_rows _ _ _ (c.in_ok-object_of.ensures rows refl ∙ rows_before member_rows (drop 3 rows) up d)
    (skip _ _ _ c.in_ok-report.ensures.0 (refuses_more _ _ _
    (rw (c.in_ok-report.ensures.1) at c.in_err-process_is_there.ensures))))

pub returns-in_err-key_is_axes : goal.returns-in_err-key_is_axes
returns-in_err-key_is_axes c =
    let up = pointer c.args.path.now in
    let d = view c.args.value.now in
    let rows = report_rows c.args.devices.now in
    let there = rw (c.in_ok-report.ensures.1) at c.in_ok-process_is_there.ensures in
    exit _ _ _ _ c.from_residual-in_err-key_is_axes.ensures
    (from_rows _ _ _ (c.in_ok-object_of.ensures rows refl ∙ rows_before member_rows (drop 3 rows) up d)
    (skip _ _ _ c.in_ok-report.ensures.0 (skip _ _ _ there.0
    (refuses_more _ _ _ (rw (c.in_ok-report.ensures.1) at c.in_err-key_is_axes.ensures)))))

pub returns : goal.returns
returns c =
    let up = pointer c.args.path.now in
    let d = view c.args.value.now in
    let rows = report_rows c.args.devices.now in
    let there = rw (c.in_ok-report.ensures.1) at c.in_ok-process_is_there.ensures in
    let axes = rw (c.in_ok-report.ensures.1) at c.in_ok-key_is_axes.ensures in (
      no_rows _ _ (c.in_ok-object_of.ensures rows refl ∙ rows_before member_rows (drop 3 rows) up d)
          (none_more _ _ c.in_ok-report.ensures.0 (none_more _ _ there.0 (none_more _ _ axes.0 refl))),
      c.in_ok-report.ensures.1,
    )
