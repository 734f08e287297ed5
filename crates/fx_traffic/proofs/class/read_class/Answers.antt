use Rattle.std.proofs.Common.{refl, map}
use Rattle.fx_traffic.specs.Classes.{class_rows}
use Rattle.fx_walk.proofs.Faults.{exit, refuses_more}
use Rattle.fx_traffic.proofs.class.read_class.Goals as goal

pub returns-in_err-object_of-clause-reads : goal.returns-in_err-object_of-clause-reads
returns-in_err-object_of-clause-reads g c =
    exit _ _ _ _ c.from_residual.ensures (c.in_err-object_of.ensures
    (class_rows (map g.T.Named.name c.args.devices.now) c.args.earlier.now) refl)

pub returns-in_err-name_member_by-clause-reads : goal.returns-in_err-name_member_by-clause-reads
returns-in_err-name_member_by-clause-reads g c =
    exit _ _ _ _ c.from_residual-in_err-name_member_by.ensures
    (rw (c.in_ok-object_of.ensures (class_rows (map g.T.Named.name c.args.devices.now) c.args.earlier.now) refl)
    (refuses_more _ _ _ c.in_err-name_member_by.ensures.reads))

pub returns-in_err-region-clause-reads : goal.returns-in_err-region-clause-reads
returns-in_err-region-clause-reads g c =
    exit _ _ _ _ c.from_residual-in_err-region.ensures
    (rw (
      c.in_ok-object_of.ensures (class_rows (map g.T.Named.name c.args.devices.now) c.args.earlier.now) refl,
      c.in_ok-name_member_by.ensures.reads.0,
    ) (refuses_more _ _ _ c.in_err-region.ensures))

pub returns-in_err-paths-clause-reads : goal.returns-in_err-paths-clause-reads
returns-in_err-paths-clause-reads g c =
    exit _ _ _ _ c.from_residual-in_err-paths.ensures
    (rw (
      c.in_ok-object_of.ensures (class_rows (map g.T.Named.name c.args.devices.now) c.args.earlier.now) refl,
      c.in_ok-name_member_by.ensures.reads.0,
      c.in_ok-region.ensures.0,
    ) (refuses_more _ _ _ c.in_err-paths.ensures))

pub returns-in_err-exempt-clause-reads : goal.returns-in_err-exempt-clause-reads
returns-in_err-exempt-clause-reads g c =
    exit _ _ _ _ c.from_residual-in_err-exempt.ensures
    (rw (
      c.in_ok-object_of.ensures (class_rows (map g.T.Named.name c.args.devices.now) c.args.earlier.now) refl,
      c.in_ok-name_member_by.ensures.reads.0,
      c.in_ok-region.ensures.0,
      c.in_ok-paths.ensures.0,
    )
    (refuses_more _ _ _ c.in_err-exempt.ensures))

pub returns-clause-reads : goal.returns-clause-reads
returns-clause-reads g c = (
  rw (
    c.in_ok-object_of.ensures (class_rows (map g.T.Named.name c.args.devices.now) c.args.earlier.now) refl,
    c.in_ok-name_member_by.ensures.reads.0,
    c.in_ok-region.ensures.0,
    c.in_ok-paths.ensures.0,
    c.in_ok-exempt.ensures.0,
  ) refl,
  rw (
    c.new.ensures,
    c.into_vec.ensures,
    c.in_ok-region.ensures.1,
    c.in_ok-paths.ensures.1,
    c.in_ok-exempt.ensures.1,
  ) refl,
)
