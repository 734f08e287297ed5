use Rattle.fx_run_text.proofs.RunTexts.{text_read, text_found}
use Rattle.fx_run_text.proofs.run_reading.run_texts.Goals as goal

pub returns-clause-read : goal.returns-clause-read
returns-clause-read c = text_read

pub returns-clause-only : goal.returns-clause-only
returns-clause-only c = text_found
