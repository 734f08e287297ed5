use Rattle.std.proofs.Common.{refl}
use Rattle.fx_walk.proofs.RowFaults.{none_more, skip}
use Rattle.fx_walk.proofs.Faults.{exit, refuses_more}
use Rattle.fx_config.proofs.selector.read_method.Goals as goal

pub returns-in_err-none_of : goal.returns-in_err-none_of
returns-in_err-none_of c =
    exit _ _ _ _ c.from_residual.ensures (refuses_more _ _ _ c.in_err-none_of.ensures)

pub returns-in_err-one_of : goal.returns-in_err-one_of
returns-in_err-one_of c =
    exit _ _ _ _ c.from_residual-in_err-one_of.ensures
    (skip _ _ _ c.in_ok-none_of.ensures.0 (refuses_more _ _ _ c.in_err-one_of.ensures))

pub returns-in_err-_all : goal.returns-in_err-_all
returns-in_err-_all c =
    exit _ _ _ _ c.from_residual-in_err-_all.ensures
    (skip _ _ _ c.in_ok-none_of.ensures.0 (skip _ _ _ c.in_ok-one_of.ensures.0
    (refuses_more _ _ _ c.in_err-_all.ensures)))

pub returns-in_err-filter : goal.returns-in_err-filter
returns-in_err-filter c =
    exit _ _ _ _ c.from_residual-in_err-filter.ensures
    (skip _ _ _ c.in_ok-none_of.ensures.0 (skip _ _ _ c.in_ok-one_of.ensures.0
    (skip _ _ _ c.in_ok-_all.ensures.0 (refuses_more _ _ _ c.in_err-filter.ensures))))

pub returns : goal.returns
returns c = (
  none_more _ _ c.in_ok-none_of.ensures.0
      (none_more _ _ c.in_ok-one_of.ensures.0
      (none_more _ _ c.in_ok-_all.ensures.0 (none_more _ _ c.in_ok-filter.ensures.0 refl))),
  rw (c.method_given.ensures, c.in_ok-filter.ensures.1) refl,
)
