use Rattle.std.proofs.Common.{drop, refl, ◌∙◌}
use Rattle.serde_json.specs.View.{view}
use Rattle.fx_walk.specs.Pointer.{pointer}
use Rattle.fx_config.specs.GivenElements.{element_rows}
use Rattle.fx_config.specs.PropertyMatches.{property_match_rows}
use Rattle.fx_walk.proofs.RowFaults.{from_rows, reads_behind, reads_last, reads_rows, rows_before, skip}
use Rattle.fx_walk.proofs.Faults.{exit, refuses_more}
use Rattle.fx_config.proofs.property_match.PropertyMatchReaderFromValue.from_value.Goals as goal

pub returns-in_err-object_of : goal.returns-in_err-object_of
returns-in_err-object_of c =
    exit _ _ _ _ c.from_residual.ensures (c.in_err-object_of.ensures (property_match_rows) refl)

pub returns-in_err-given : goal.returns-in_err-given
returns-in_err-given c =
    exit _ _ _ _ c.from_residual-in_err-given.ensures
    (from_rows _ _ _ (c.in_ok-object_of.ensures (property_match_rows) refl
    ∙ rows_before element_rows (drop 3 property_match_rows) (pointer c.args.path.now) (view c.args.value.now))
    (refuses_more _ _ _ c.in_err-given.ensures))

pub returns-in_err-enterprise : goal.returns-in_err-enterprise
returns-in_err-enterprise c =
    exit _ _ _ _ c.from_residual-in_err-enterprise.ensures
    (from_rows _ _ _ (c.in_ok-object_of.ensures (property_match_rows) refl
    ∙ rows_before element_rows (drop 3 property_match_rows) (pointer c.args.path.now) (view c.args.value.now))
    (skip _ _ _ c.in_ok-given.ensures.0 (refuses_more _ _ _ c.in_err-enterprise.ensures)))

pub returns-in_err-text : goal.returns-in_err-text
returns-in_err-text c =
    exit _ _ _ _ c.from_residual-in_err-text.ensures
    (from_rows _ _ _ (c.in_ok-object_of.ensures (property_match_rows) refl
    ∙ rows_before element_rows (drop 3 property_match_rows) (pointer c.args.path.now) (view c.args.value.now))
    (skip _ _ _ c.in_ok-given.ensures.0 (skip _ _ _ c.in_ok-enterprise.ensures.0
    (refuses_more _ _ _ c.in_err-text.ensures))))

pub returns : goal.returns
returns c =
    let property = rw (
      c.with-element.ensures,
      c.in_ok-given.ensures.1,
      c.in_ok-enterprise.ensures.1,
      c.as_str.ensures,
      c.in_ok-text.ensures.1,
    ) at c.known_property.ensures in
    reads_rows _ _ _ _ (c.in_ok-object_of.ensures (property_match_rows) refl
    ∙ rows_before element_rows (drop 3 property_match_rows) (pointer c.args.path.now) (view c.args.value.now))
    (reads_behind _ _ _ _ c.in_ok-given.ensures.0
    (reads_behind _ _ _ _ c.in_ok-enterprise.ensures.0
    (reads_behind _ _ _ _ c.in_ok-text.ensures.0 (reads_last _ _ _ property))))
