use Rattle.std.proofs.Common.{◌∙◌, ap}
use Rattle.fx_words.specs.Table.{row_of}
use Rattle.fx_words.proofs.Lookups.{found_behind}
use Rattle.fx_words.proofs.lookup.refusal_in_turn.Goals as goal

pub returns : goal.returns
returns c =
    found_behind _ _ _ _ _ _ (found_behind _ _ _ _ _ _
    (found_behind _ _ _ _ _ _ (found_behind _ _ _ _ _ _
    (found_behind _ _ _ _ _ _ (found_behind _ _ _ _ _ _
    (found_behind _ _ _ _ _ _ (found_behind _ _ _ _ _ _
    (c.refusal_among-found.ensures ∙ ap (row_of c.args.number) c.rows.ensures) c.found_or_among-found.ensures
    c.rows-2.ensures) c.found_or_among-found-2.ensures c.rows-3.ensures) c.found_or_among-found-3.ensures
    c.rows-4.ensures) c.found_or_among-found-4.ensures c.rows-5.ensures) c.found_or_among-found-5.ensures
    c.rows-6.ensures) c.found_or_among-found-6.ensures c.rows-7.ensures) c.found_or_among-found-7.ensures
    c.rows-8.ensures) c.found_or_among.ensures c.rows-9.ensures
