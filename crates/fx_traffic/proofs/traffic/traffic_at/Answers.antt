use Rattle.std.proofs.Common.{refl, map}
use Rattle.fx_traffic.specs.Classes.{traffic_rows_within, traffic_faults_within, traffic_of}
use Rattle.fx_walk.proofs.Faults.{exit, refuses_more}
use Rattle.fx_traffic.proofs.traffic.traffic_at.Goals as goal

pub returns-in_err-object_of : goal.returns-in_err-object_of
unfolding traffic_faults_within traffic_of
returns-in_err-object_of g c =
    exit _ _ _ _ c.from_residual.ensures (c.in_err-object_of.ensures
    (traffic_rows_within c.args.most (map g.T.Named.name c.args.devices.now)) refl)

pub returns-in_err-classes : goal.returns-in_err-classes
unfolding traffic_faults_within traffic_of
returns-in_err-classes g c =
    exit _ _ _ _ c.from_residual-in_err-classes.ensures
    (rw (c.in_ok-object_of.ensures (traffic_rows_within c.args.most (map g.T.Named.name c.args.devices.now)) refl)
    (refuses_more _ _ _ c.in_err-classes.ensures))

pub returns : goal.returns
unfolding traffic_faults_within traffic_of
returns g c = (
  rw (
    c.in_ok-object_of.ensures (traffic_rows_within c.args.most (map g.T.Named.name c.args.devices.now)) refl,
    c.in_ok-classes.ensures.0,
  ) refl,
  rw (c.new.ensures, c.into_vec.ensures, c.in_ok-classes.ensures.1) refl,
)
