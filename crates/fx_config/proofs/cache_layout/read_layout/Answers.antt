use Rattle.std.proofs.Common.{refl}
use Rattle.fx_config.specs.CacheLayouts.{cache_layout_rows}
use Rattle.fx_walk.proofs.RowFaults.{from_rows, no_rows, none_more, skip}
use Rattle.fx_walk.proofs.Faults.{exit, refuses_more}
use Rattle.fx_config.proofs.cache_layout.read_layout.Goals as goal

pub returns-in_err-object_of : goal.returns-in_err-object_of
returns-in_err-object_of c =
    exit _ _ _ _ c.from_residual.ensures (c.in_err-object_of.ensures (cache_layout_rows c.args.immediate) refl)

pub returns-in_err-fields : goal.returns-in_err-fields
returns-in_err-fields c =
    exit _ _ _ _ c.from_residual-in_err-fields.ensures
    (from_rows _ _ _ (c.in_ok-object_of.ensures (cache_layout_rows c.args.immediate) refl)
    (refuses_more _ _ _ c.in_err-fields.ensures))

pub returns-in_err-has_counters : goal.returns-in_err-has_counters
returns-in_err-has_counters c =
    exit _ _ _ _ c.from_residual-in_err-has_counters.ensures
    (from_rows _ _ _ (c.in_ok-object_of.ensures (cache_layout_rows c.args.immediate) refl)
    (skip _ _ _ c.in_ok-fields.ensures.0 (refuses_more _ _ _
    (rw (c.as_slice-fields.ensures, c.in_ok-fields.ensures.1) at c.in_err-has_counters.ensures))))

pub returns : goal.returns
returns c =
    let has_counters_none =
    rw (c.as_slice-fields.ensures, c.in_ok-fields.ensures.1) at c.in_ok-has_counters.ensures in (
      no_rows _ _ (c.in_ok-object_of.ensures (cache_layout_rows c.args.immediate) refl)
          (none_more _ _ c.in_ok-fields.ensures.0 (none_more _ _ has_counters_none.0 refl)),
      rw (c.layout_of.ensures, c.as_slice-fields.ensures, c.in_ok-fields.ensures.1) refl,
    )
