use Rattle.fx_cert.proofs.Texts.{one_item}
use Rattle.fx_cert.proofs.laws.one_text.Goals as goal

pub returns : goal.returns
returns c = one_item
