use Rattle.fx_words.proofs.Lookups.{has_number, known}
use Rattle.fx_words.proofs.lookup.refusal_of.Goals as goal

pub returns-clause-known : goal.returns-clause-known
returns-clause-known c = known c.args.number c.refusal_in_turn.result c.refusal_in_turn.ensures

pub returns-clause-number : goal.returns-clause-number
returns-clause-number c = has_number c.args.number c.refusal_in_turn.result c.refusal_in_turn.ensures
