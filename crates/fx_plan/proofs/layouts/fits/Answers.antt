use Rattle.std.proofs.Common.{subst}
use Rattle.fx_layout.specs.Keys.{Layout, Fits}
use Rattle.fx_layout.proofs.Layouts.{fits_if}
use Rattle.fx_plan.proofs.layouts.fits.Goals as goal

pub returns : goal.returns
returns c = subst (λ (l : Layout). Fits l) c.parts-parts.ensures.value
    (fits_if c.parts-parts.result.now c.parts-parts.ensures.kept.stands)
