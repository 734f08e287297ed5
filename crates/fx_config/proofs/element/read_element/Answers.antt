use Rattle.std.proofs.Common.{refl}
use Rattle.fx_walk.proofs.RowFaults.{none_more, skip}
use Rattle.fx_walk.proofs.Faults.{exit, refuses_more}
use Rattle.fx_config.proofs.element.read_element.Goals as goal

pub returns-in_err-one_of : goal.returns-in_err-one_of
returns-in_err-one_of c = exit _ _ _ _ c.from_residual.ensures (refuses_more _ _ _ c.in_err-one_of.ensures)

pub returns-in_err-named : goal.returns-in_err-named
returns-in_err-named c =
    exit _ _ _ _ c.from_residual-in_err-named.ensures
    (skip _ _ _ c.in_ok-one_of.ensures.0 (refuses_more _ _ _ c.in_err-named.ensures))

pub returns-in_err-numbered : goal.returns-in_err-numbered
returns-in_err-numbered c =
    exit _ _ _ _ c.from_residual-in_err-numbered.ensures
    (skip _ _ _ c.in_ok-one_of.ensures.0 (skip _ _ _ c.in_ok-named.ensures.0
    (refuses_more _ _ _ c.in_err-numbered.ensures)))

pub returns : goal.returns
returns c = (
  none_more _ _ c.in_ok-one_of.ensures.0
      (none_more _ _ c.in_ok-named.ensures.0 (none_more _ _ c.in_ok-numbered.ensures.0 refl)),
  rw (c.in_ok-named.ensures.1, c.in_ok-numbered.ensures.1) refl,
)
