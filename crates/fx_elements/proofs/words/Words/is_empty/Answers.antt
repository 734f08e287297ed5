use Rattle.std.proofs.Common.{◌∙◌, ap}
use Rattle.fx_elements.specs.Words.{none_left}
use Rattle.fx_elements.proofs.WordsOfLines.{left_is}
use Rattle.fx_elements.proofs.words.Words.is_empty.Goals as goal

pub returns : goal.returns
returns c = left_is c.self.inside.rest c.is_none.result c.is_none.ensures ∙ ap none_left c.self.view_is
