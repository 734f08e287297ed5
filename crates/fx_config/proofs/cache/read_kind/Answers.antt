use Rattle.std.proofs.Common.{refl}
use Rattle.fx_walk.proofs.RowFaults.{none_more, skip}
use Rattle.fx_walk.proofs.Faults.{exit, refuses_more}
use Rattle.fx_config.proofs.cache.read_kind.Goals as goal

pub returns-in_err-one_of : goal.returns-in_err-one_of
returns-in_err-one_of c =
    exit _ _ _ _ c.from_residual.ensures (refuses_more _ _ _ c.in_err-one_of.ensures)

pub returns-in_err-immediate : goal.returns-in_err-immediate
returns-in_err-immediate c =
    exit _ _ _ _ c.from_residual-in_err-immediate.ensures
    (skip _ _ _ c.in_ok-one_of.ensures.0 (refuses_more _ _ _ c.in_err-immediate.ensures))

pub returns-in_err-timeout : goal.returns-in_err-timeout
returns-in_err-timeout c =
    exit _ _ _ _ c.from_residual-in_err-timeout.ensures
    (skip _ _ _ c.in_ok-one_of.ensures.0 (skip _ _ _ c.in_ok-immediate.ensures.0
    (refuses_more _ _ _ c.in_err-timeout.ensures)))

pub returns-in_err-natural : goal.returns-in_err-natural
returns-in_err-natural c =
    exit _ _ _ _ c.from_residual-in_err-natural.ensures
    (skip _ _ _ c.in_ok-one_of.ensures.0 (skip _ _ _ c.in_ok-immediate.ensures.0
    (skip _ _ _ c.in_ok-timeout.ensures.0 (refuses_more _ _ _ c.in_err-natural.ensures))))

pub returns-in_err-permanent : goal.returns-in_err-permanent
returns-in_err-permanent c =
    exit _ _ _ _ c.from_residual-in_err-permanent.ensures
    (skip _ _ _ c.in_ok-one_of.ensures.0 (skip _ _ _ c.in_ok-immediate.ensures.0
    (skip _ _ _ c.in_ok-timeout.ensures.0 (skip _ _ _ c.in_ok-natural.ensures.0
    (refuses_more _ _ _ c.in_err-permanent.ensures)))))

pub returns : goal.returns
returns c = (
  none_more _ _ c.in_ok-one_of.ensures.0
      (none_more _ _ c.in_ok-immediate.ensures.0
      (none_more _ _ c.in_ok-timeout.ensures.0
      (none_more _ _ c.in_ok-natural.ensures.0 (none_more _ _ c.in_ok-permanent.ensures.0 refl)))),
  rw (
    c.kind_given.ensures,
    c.in_ok-immediate.ensures.1,
    c.in_ok-timeout.ensures.1,
    c.in_ok-natural.ensures.1,
    c.in_ok-permanent.ensures.1,
  ) refl,
)
