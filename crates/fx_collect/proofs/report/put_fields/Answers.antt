use Rattle.std.proofs.Common.{arith, rules}
use Rattle.fx_layout.proofs.Layouts.{fits_if}
use Rattle.fx_collect.proofs.report.put_fields.Goals as goal

pub put_parts-requires-clause-fits : goal.put_parts-requires-clause-fits
put_parts-requires-clause-fits g c = fits_if _ c.parts-parts.ensures.kept.stands

pub returns-in-empty-clause-ok : goal.returns-in-empty-clause-ok
returns-in-empty-clause-ok g c = first_of (grind arith, search rules)
