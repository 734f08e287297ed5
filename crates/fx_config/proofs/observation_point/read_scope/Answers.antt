use Rattle.std.proofs.Common.{refl}
use Rattle.fx_walk.proofs.RowFaults.{none_more, skip}
use Rattle.fx_walk.proofs.Faults.{exit, refuses_more}
use Rattle.fx_config.proofs.observation_point.read_scope.Goals as goal

pub returns-in_err-domain : goal.returns-in_err-domain
returns-in_err-domain c =
    exit _ _ _ _ c.from_residual.ensures (refuses_more _ _ _ c.in_err-domain.ensures)

pub returns-in_err-interfaces : goal.returns-in_err-interfaces
returns-in_err-interfaces c =
    exit _ _ _ _ c.from_residual-in_err-interfaces.ensures
    (skip _ _ _ c.in_ok-domain.ensures.0 (refuses_more _ _ _ c.in_err-interfaces.ensures))

pub returns-in_err-direction : goal.returns-in_err-direction
returns-in_err-direction c =
    exit _ _ _ _ c.from_residual-in_err-direction.ensures
    (skip _ _ _ c.in_ok-domain.ensures.0 (skip _ _ _ c.in_ok-interfaces.ensures.0
    (refuses_more _ _ _ c.in_err-direction.ensures)))

pub returns : goal.returns
returns c = (
  none_more _ _ c.in_ok-domain.ensures.0
      (none_more _ _ c.in_ok-interfaces.ensures.0 (none_more _ _ c.in_ok-direction.ensures.0 refl)),
  rw (c.number.ensures.value, c.in_ok-domain.ensures.1, c.in_ok-interfaces.ensures.1, c.in_ok-direction.ensures.1)
      refl,
)
