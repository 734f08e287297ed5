use Rattle.std.proofs.Common.{refl}
use Rattle.fx_config.specs.Caches.{settings_rows}
use Rattle.fx_walk.proofs.RowFaults.{from_rows, no_rows, none_more, skip}
use Rattle.fx_walk.proofs.Faults.{exit, refuses_more}
use Rattle.fx_config.proofs.cache.read_settings.Goals as goal

pub returns-in_err-object_of : goal.returns-in_err-object_of
returns-in_err-object_of c =
    exit _ _ _ _ c.from_residual.ensures (c.in_err-object_of.ensures (settings_rows c.args.immediate) refl)

pub returns-in_err-max_flows : goal.returns-in_err-max_flows
returns-in_err-max_flows c =
    exit _ _ _ _ c.from_residual-in_err-max_flows.ensures
    (from_rows _ _ _ (c.in_ok-object_of.ensures (settings_rows c.args.immediate) refl)
    (refuses_more _ _ _ c.in_err-max_flows.ensures))

pub returns-in_err-_active : goal.returns-in_err-_active
returns-in_err-_active c =
    exit _ _ _ _ c.from_residual-in_err-_active.ensures
    (from_rows _ _ _ (c.in_ok-object_of.ensures (settings_rows c.args.immediate) refl)
    (skip _ _ _ c.in_ok-max_flows.ensures.0 (refuses_more _ _ _ c.in_err-_active.ensures)))

pub returns-in_err-_idle : goal.returns-in_err-_idle
returns-in_err-_idle c =
    exit _ _ _ _ c.from_residual-in_err-_idle.ensures
    (from_rows _ _ _ (c.in_ok-object_of.ensures (settings_rows c.args.immediate) refl)
    (skip _ _ _ c.in_ok-max_flows.ensures.0
    (skip _ _ _ c.in_ok-_active.ensures.0 (refuses_more _ _ _ c.in_err-_idle.ensures))))

pub returns-in_err-_interval : goal.returns-in_err-_interval
returns-in_err-_interval c =
    exit _ _ _ _ c.from_residual-in_err-_interval.ensures
    (from_rows _ _ _ (c.in_ok-object_of.ensures (settings_rows c.args.immediate) refl)
    (skip _ _ _ c.in_ok-max_flows.ensures.0
    (skip _ _ _ c.in_ok-_active.ensures.0 (skip _ _ _ c.in_ok-_idle.ensures.0
    (refuses_more _ _ _ c.in_err-_interval.ensures)))))

pub returns-in_err-layout : goal.returns-in_err-layout
returns-in_err-layout c =
    exit _ _ _ _ c.from_residual-in_err-layout.ensures
    (from_rows _ _ _ (c.in_ok-object_of.ensures (settings_rows c.args.immediate) refl)
    (skip _ _ _ c.in_ok-max_flows.ensures.0
    (skip _ _ _ c.in_ok-_active.ensures.0 (skip _ _ _ c.in_ok-_idle.ensures.0
    (skip _ _ _ c.in_ok-_interval.ensures.0 (refuses_more _ _ _ c.in_err-layout.ensures))))))

pub returns : goal.returns
returns c = (
  no_rows _ _ (c.in_ok-object_of.ensures (settings_rows c.args.immediate) refl)
      (none_more _ _ c.in_ok-max_flows.ensures.0
      (none_more _ _ c.in_ok-_active.ensures.0
      (none_more _ _ c.in_ok-_idle.ensures.0 (none_more _ _ c.in_ok-_interval.ensures.0
      (none_more _ _ c.in_ok-layout.ensures.0 refl))))),
  rw (c.max_flows_given.ensures, c.in_ok-max_flows.ensures.1, c.in_ok-layout.ensures.1) refl,
)
