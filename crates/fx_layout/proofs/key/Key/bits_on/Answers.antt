use Rattle.fx_layout.proofs.Layouts.{fits_if}
use Rattle.fx_layout.proofs.key.Key.bits_on.Goals as goal

pub cut_part-requires : goal.cut_part-requires
cut_part-requires c = fits_if _ c.parts.ensures.kept.stands
