use Rattle.fx_elements.proofs.AxisTexts.{value_fits, prefix_fits}
use Rattle.fx_elements.proofs.values.values_fit.Goals as goal

pub returns-clause-value : goal.returns-clause-value
returns-clause-value c = value_fits

pub returns-clause-leading : goal.returns-clause-leading
returns-clause-leading c = prefix_fits
