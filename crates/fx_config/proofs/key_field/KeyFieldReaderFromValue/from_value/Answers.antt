use Rattle.std.proofs.Common.{drop, refl, ◌∙◌}
use Rattle.serde_json.specs.View.{view}
use Rattle.fx_walk.specs.Pointer.{pointer}
use Rattle.fx_config.specs.GivenElements.{element_rows}
use Rattle.fx_config.specs.KeyFields.{key_field_rows}
use Rattle.fx_walk.proofs.RowFaults.{from_rows, no_rows, none_more, rows_before, skip}
use Rattle.fx_walk.proofs.Faults.{exit, refuses_more}
use Rattle.fx_config.proofs.key_field.KeyFieldReaderFromValue.from_value.Goals as goal

pub returns-in_err-object_of : goal.returns-in_err-object_of
returns-in_err-object_of c =
    exit _ _ _ _ c.from_residual.ensures (c.in_err-object_of.ensures (key_field_rows) refl)

pub returns-in_err-given : goal.returns-in_err-given
returns-in_err-given c =
    exit _ _ _ _ c.from_residual-in_err-given.ensures
    (from_rows _ _ _ (c.in_ok-object_of.ensures (key_field_rows) refl
    ∙ rows_before element_rows (drop 3 key_field_rows) (pointer c.args.path.now) (view c.args.value.now))
    (refuses_more _ _ _ c.in_err-given.ensures))

pub returns-in_err-length : goal.returns-in_err-length
returns-in_err-length c =
    exit _ _ _ _ c.from_residual-in_err-length.ensures
    (from_rows _ _ _ (c.in_ok-object_of.ensures (key_field_rows) refl
    ∙ rows_before element_rows (drop 3 key_field_rows) (pointer c.args.path.now) (view c.args.value.now))
    (skip _ _ _ c.in_ok-given.ensures.0 (refuses_more _ _ _ c.in_err-length.ensures)))

pub returns-in_err-known_prefix : goal.returns-in_err-known_prefix
returns-in_err-known_prefix c =
    exit _ _ _ _ c.from_residual-in_err-known_prefix.ensures
    (from_rows _ _ _ (c.in_ok-object_of.ensures (key_field_rows) refl
    ∙ rows_before element_rows (drop 3 key_field_rows) (pointer c.args.path.now) (view c.args.value.now))
    (skip _ _ _ c.in_ok-given.ensures.0 (skip _ _ _ c.in_ok-length.ensures.0
    (refuses_more _ _ _ (rw (
      c.with-element.ensures,
      c.in_ok-given.ensures.1,
      c.bits_given-prefix_length.ensures,
      c.in_ok-length.ensures.1,
    ) at c.in_err-known_prefix.ensures)))))

pub returns : goal.returns
returns c =
    let known_prefix_none = rw (
      c.with-element.ensures,
      c.in_ok-given.ensures.1,
      c.bits_given-prefix_length.ensures,
      c.in_ok-length.ensures.1,
    ) at c.in_ok-known_prefix.ensures in (
      no_rows _ _ (c.in_ok-object_of.ensures (key_field_rows) refl
          ∙ rows_before element_rows (drop 3 key_field_rows) (pointer c.args.path.now) (view c.args.value.now))
          (none_more _ _ c.in_ok-given.ensures.0 (none_more _ _ c.in_ok-length.ensures.0
          (none_more _ _ known_prefix_none.0 refl))),
      rw (
        c.with-element.ensures,
        c.in_ok-given.ensures.1,
        c.bits_given-prefix_length.ensures,
        c.in_ok-length.ensures.1,
      ) refl,
    )
