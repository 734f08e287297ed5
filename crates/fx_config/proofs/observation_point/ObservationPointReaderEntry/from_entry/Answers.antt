use Rattle.std.proofs.Common.{drop, refl, ◌∙◌}
use Rattle.serde_json.specs.View.{view}
use Rattle.fx_walk.specs.Pointer.{pointer}
use Rattle.fx_walk.proofs.Faults.{exit, refuses_more}
use Rattle.fx_config.specs.ObservationPoints.{observation_point_rows, scope_rows}
use Rattle.fx_walk.proofs.RowFaults.{from_rows, no_rows, none_more, rows_before, skip}
use Rattle.fx_config.proofs.observation_point.ObservationPointReaderEntry.from_entry.Goals as goal

pub returns-in_err-name-clause-reads : goal.returns-in_err-name-clause-reads
returns-in_err-name-clause-reads c =
    exit _ _ _ _ c.from_residual.ensures (c.in_err-name.ensures.reads
    (drop 1 (observation_point_rows c.args.earlier.now)) refl)

pub returns-in_err-scope-clause-reads : goal.returns-in_err-scope-clause-reads
returns-in_err-scope-clause-reads c =
    exit _ _ _ _ c.from_residual-in_err-scope.ensures
    (from_rows _ _ _ (c.in_ok-name.ensures.reads.0 (drop 1 (observation_point_rows c.args.earlier.now)) refl
    ∙ rows_before scope_rows (drop 4 (observation_point_rows c.args.earlier.now)) (pointer c.args.path.now)
    (view c.args.value.now)) (refuses_more _ _ _ c.in_err-scope.ensures))

pub returns-in_err-processes-clause-reads : goal.returns-in_err-processes-clause-reads
returns-in_err-processes-clause-reads c =
    exit _ _ _ _ c.from_residual-in_err-processes.ensures
    (from_rows _ _ _ (c.in_ok-name.ensures.reads.0 (drop 1 (observation_point_rows c.args.earlier.now)) refl
    ∙ rows_before scope_rows (drop 4 (observation_point_rows c.args.earlier.now)) (pointer c.args.path.now)
    (view c.args.value.now)) (skip _ _ _ c.in_ok-scope.ensures.0 (refuses_more _ _ _ c.in_err-processes.ensures)))

pub returns-clause-reads : goal.returns-clause-reads
returns-clause-reads c = (
  no_rows _ _ (c.in_ok-name.ensures.reads.0 (drop 1 (observation_point_rows c.args.earlier.now)) refl
      ∙ rows_before scope_rows (drop 4 (observation_point_rows c.args.earlier.now)) (pointer c.args.path.now)
      (view c.args.value.now)) (none_more _ _ c.in_ok-scope.ensures.0
      (none_more _ _ c.in_ok-processes.ensures.0 refl)),
  rw (c.in_ok-name.ensures.reads.1, c.in_ok-scope.ensures.1, c.in_ok-processes.ensures.1) refl,
)
