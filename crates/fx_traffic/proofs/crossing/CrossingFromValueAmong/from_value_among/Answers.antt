use Rattle.std.proofs.Common.{refl, map}
use Rattle.fx_traffic.specs.Crossings.{crossing_rows}
use Rattle.fx_walk.proofs.Faults.{exit, refuses_more}
use Rattle.fx_traffic.proofs.crossing.CrossingFromValueAmong.from_value_among.Goals as goal

pub returns-in_err-object_of : goal.returns-in_err-object_of
returns-in_err-object_of g c =
    exit _ _ _ _ c.from_residual.ensures (c.in_err-object_of.ensures
    (crossing_rows (map g.D.Named.name c.args.devices.now)) refl)

pub returns-in_err-device : goal.returns-in_err-device
returns-in_err-device g c =
    exit _ _ _ _ c.from_residual-in_err-device.ensures
    (rw (c.in_ok-object_of.ensures (crossing_rows (map g.D.Named.name c.args.devices.now)) refl)
    (refuses_more _ _ _ c.in_err-device.ensures))

pub returns-in_err-interface : goal.returns-in_err-interface
returns-in_err-interface g c =
    exit _ _ _ _ c.from_residual-in_err-interface.ensures
    (rw (
      c.in_ok-object_of.ensures (crossing_rows (map g.D.Named.name c.args.devices.now)) refl,
      c.in_ok-device.ensures.0,
    ) (refuses_more _ _ _ c.in_err-interface.ensures))

pub returns-in_err-inwards : goal.returns-in_err-inwards
returns-in_err-inwards g c =
    exit _ _ _ _ c.from_residual-in_err-inwards.ensures
    (rw (
      c.in_ok-object_of.ensures (crossing_rows (map g.D.Named.name c.args.devices.now)) refl,
      c.in_ok-device.ensures.0,
      c.in_ok-interface.ensures.0,
    ) (refuses_more _ _ _ c.in_err-inwards.ensures))

pub returns : goal.returns
returns g c = (
  rw (
    c.in_ok-object_of.ensures (crossing_rows (map g.D.Named.name c.args.devices.now)) refl,
    c.in_ok-device.ensures.0,
    c.in_ok-interface.ensures.0,
    c.in_ok-inwards.ensures.0,
  ) refl,
  rw (c.in_ok-device.ensures.1, c.in_ok-interface.ensures.1, c.in_ok-inwards.ensures.1) refl,
)
