use Rattle.std.proofs.Common.{refl}
use Rattle.fx_walk.proofs.Faults.{exit, refuses_more}
use Rattle.fx_callers.specs.Sites.{site_rows}
use Rattle.fx_callers.proofs.documents.SiteReaderFromValue.from_value.Goals as goal

pub returns-in_err-object_of : goal.returns-in_err-object_of
returns-in_err-object_of c = exit _ _ _ _ c.from_residual.ensures (c.in_err-object_of.ensures site_rows refl)

pub returns-in_err-name : goal.returns-in_err-name
returns-in_err-name c =
    exit _ _ _ _ c.from_residual-in_err-name.ensures
    (rw (c.in_ok-object_of.ensures site_rows refl) (refuses_more _ _ _ c.in_err-name.ensures))

pub returns-in_err-racks : goal.returns-in_err-racks
returns-in_err-racks c =
    exit _ _ _ _ c.from_residual-in_err-racks.ensures
    (rw (c.in_ok-object_of.ensures site_rows refl, c.in_ok-name.ensures.0)
    (refuses_more _ _ _ c.in_err-racks.ensures))

pub returns : goal.returns
returns c = (
  rw (c.in_ok-object_of.ensures site_rows refl, c.in_ok-name.ensures.0, c.in_ok-racks.ensures.0) refl,
  rw (c.in_ok-name.ensures.1, c.in_ok-racks.ensures.1) refl,
)
