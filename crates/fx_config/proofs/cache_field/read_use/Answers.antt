use Rattle.std.proofs.Common.{drop, refl}
use Rattle.serde_json.specs.View.{view}
use Rattle.fx_walk.specs.Pointer.{pointer}
use Rattle.fx_walk.proofs.Faults.{exit, refuses_more, is_some-option_map}
use Rattle.fx_config.specs.CacheFields.{use_rows}
use Rattle.fx_config.specs.GivenElements.{element_rows}
use Rattle.fx_walk.proofs.RowFaults.{from_rows, no_rows, none_more, rows_before, skip}
use Rattle.fx_config.proofs.cache_field.read_use.Goals as goal

pub returns-in_err-given : goal.returns-in_err-given
returns-in_err-given c =
    exit _ _ _ _ c.from_residual.ensures (from_rows _ _ _
    (rows_before element_rows (drop 3 (use_rows c.args.immediate)) (pointer c.args.path.now)
    (view c.args.value.now)) (refuses_more _ _ _ c.in_err-given.ensures))

pub returns-in_err-length : goal.returns-in_err-length
returns-in_err-length c =
    exit _ _ _ _ c.from_residual-in_err-length.ensures
    (from_rows _ _ _ (rows_before element_rows (drop 3 (use_rows c.args.immediate)) (pointer c.args.path.now)
    (view c.args.value.now)) (skip _ _ _ c.in_ok-given.ensures.0 (refuses_more _ _ _ c.in_err-length.ensures)))

pub returns-in_err-enterprise : goal.returns-in_err-enterprise
returns-in_err-enterprise c =
    exit _ _ _ _ c.from_residual-in_err-enterprise.ensures
    (from_rows _ _ _ (rows_before element_rows (drop 3 (use_rows c.args.immediate)) (pointer c.args.path.now)
    (view c.args.value.now)) (skip _ _ _ c.in_ok-given.ensures.0
    (skip _ _ _ c.in_ok-length.ensures.0 (refuses_more _ _ _ c.in_err-enterprise.ensures))))

pub returns-in_err-marked : goal.returns-in_err-marked
returns-in_err-marked c =
    exit _ _ _ _ c.from_residual-in_err-marked.ensures
    (from_rows _ _ _ (rows_before element_rows (drop 3 (use_rows c.args.immediate)) (pointer c.args.path.now)
    (view c.args.value.now)) (skip _ _ _ c.in_ok-given.ensures.0
    (skip _ _ _ c.in_ok-length.ensures.0 (skip _ _ _ c.in_ok-enterprise.ensures.0
    (refuses_more _ _ _ c.in_err-marked.ensures)))))

pub returns-in_err-known_field : goal.returns-in_err-known_field
returns-in_err-known_field c =
    exit _ _ _ _ c.from_residual-in_err-known_field.ensures
    (from_rows _ _ _ (rows_before element_rows (drop 3 (use_rows c.args.immediate)) (pointer c.args.path.now)
    (view c.args.value.now)) (skip _ _ _ c.in_ok-given.ensures.0
    (skip _ _ _ c.in_ok-length.ensures.0 (skip _ _ _ c.in_ok-enterprise.ensures.0
    (skip _ _ _ c.in_ok-marked.ensures.0 (refuses_more _ _ _
    (rw (
      c.is_key-is_flow_key.ensures,
      c.is_some.ensures,
      c.in_ok-marked.ensures.1,
      is_some-option_map,
      c.with-element.ensures,
      c.in_ok-given.ensures.1,
      c.in_ok-enterprise.ensures.1,
      c.in_ok-length.ensures.1,
    ) at
    c.in_err-known_field.ensures)))))))

pub returns : goal.returns
returns c =
    let known_field_none = rw (
      c.is_key-is_flow_key.ensures,
      c.is_some.ensures,
      c.in_ok-marked.ensures.1,
      is_some-option_map,
      c.with-element.ensures,
      c.in_ok-given.ensures.1,
      c.in_ok-enterprise.ensures.1,
      c.in_ok-length.ensures.1,
    ) at c.in_ok-known_field.ensures in (
      no_rows _ _ (rows_before element_rows (drop 3 (use_rows c.args.immediate)) (pointer c.args.path.now)
          (view c.args.value.now)) (none_more _ _ c.in_ok-given.ensures.0
          (none_more _ _ c.in_ok-length.ensures.0
          (none_more _ _ c.in_ok-enterprise.ensures.0
          (none_more _ _ c.in_ok-marked.ensures.0 (none_more _ _ known_field_none.0 refl))))),
      rw (
        c.is_key-is_flow_key.ensures,
        c.is_some.ensures,
        c.in_ok-marked.ensures.1,
        is_some-option_map,
        c.with-element.ensures,
        c.in_ok-given.ensures.1,
        c.in_ok-enterprise.ensures.1,
      ) refl,
    )
