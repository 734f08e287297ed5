use Rattle.std.proofs.Common.{refl}
use Rattle.fx_walk.proofs.RowFaults.{none_more, skip}
use Rattle.fx_walk.proofs.Faults.{exit, refuses_more}
use Rattle.fx_config.proofs.ipfix.read_referred.Goals as goal

pub returns-in_err-selecting : goal.returns-in_err-selecting
returns-in_err-selecting c = exit _ _ _ _ c.from_residual.ensures (refuses_more _ _ _ c.in_err-selecting.ensures)

pub returns-in_err-caches : goal.returns-in_err-caches
returns-in_err-caches c =
    exit _ _ _ _ c.from_residual-in_err-caches.ensures
    (skip _ _ _ c.in_ok-selecting.ensures.0 (refuses_more _ _ _ c.in_err-caches.ensures))

pub returns-in_err-exporting : goal.returns-in_err-exporting
returns-in_err-exporting c =
    exit _ _ _ _ c.from_residual-in_err-exporting.ensures
    (skip _ _ _ c.in_ok-selecting.ensures.0
    (skip _ _ _ c.in_ok-caches.ensures.0 (refuses_more _ _ _ c.in_err-exporting.ensures)))

pub returns : goal.returns
returns c = (
  none_more _ _ c.in_ok-selecting.ensures.0
      (none_more _ _ c.in_ok-caches.ensures.0 (none_more _ _ c.in_ok-exporting.ensures.0 refl)),
  rw (c.in_ok-selecting.ensures.1, c.in_ok-caches.ensures.1, c.in_ok-exporting.ensures.1) refl,
)
