use Rattle.fx_sums.proofs.Fewer.{bound_not_met}
use Rattle.fx_sums.proofs.TextsFound.{texts_found}
use Rattle.fx_sums.proofs.TextsRead.{texts_read}
use Rattle.fx_sums.proofs.RefusedTexts.{texts_refused}
use Rattle.fx_sums.proofs.laws.totals_texts.Goals as goal

pub returns-clause-read : goal.returns-clause-read
returns-clause-read c = texts_read

pub returns-clause-only : goal.returns-clause-only
returns-clause-only c = texts_found

pub returns-clause-bound : goal.returns-clause-bound
returns-clause-bound c = bound_not_met

pub returns-clause-refused : goal.returns-clause-refused
returns-clause-refused c = texts_refused
