use Rattle.fx_elements.proofs.WordsOfLines.{first_of_more, first_of_one}
use Rattle.fx_elements.proofs.words.Words.word.Goals as goal

pub returns-in-Some : goal.returns-in-Some
returns-in-Some c = first_of_more c.self.inside.rest c.in_ok-text.text c.args.self
    (c.in-Some.word.now, c.in-Some.rest.now) c.self.view_is c.in_ok-text.was c.in-Some.ensures

pub returns-in-None : goal.returns-in-None
returns-in-None c = first_of_one c.self.inside.rest c.in_ok-text.text c.args.self c.self.view_is c.in_ok-text.was
    c.in-None.ensures
