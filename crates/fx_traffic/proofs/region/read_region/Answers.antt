use Rattle.std.proofs.Common.{refl}
use Rattle.fx_traffic.specs.Regions.{region_rows}
use Rattle.fx_walk.proofs.Faults.{exit}
use Rattle.fx_traffic.proofs.region.read_region.Goals as goal

pub returns-in_err-object_of : goal.returns-in_err-object_of
returns-in_err-object_of c =
    exit _ _ _ _ c.from_residual.ensures (c.in_err-object_of.ensures (region_rows) refl)

pub returns : goal.returns
returns c = rw (c.in_ok-object_of.ensures (region_rows) refl) c.region_in.ensures
