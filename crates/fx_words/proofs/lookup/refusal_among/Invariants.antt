use Rattle.std.proofs.Common.{◌≡◌, map, drop}
use Rattle.fx_words.specs.Table.{row_of}
use Rattle.fx_words.specs.Words.{words_at}
use Rattle.fx_words.proofs.lookup.refusal_among.Given as goal

abbrev pub invariant-loop-row : goal.invariant-loop-row
invariant-loop-row l =
    row_of l.number (map (λ r. words_at r.0 r.1.now r.2.now r.3.now r.4.now) (drop l.row-index l.rows))
    ≡ row_of l.number (map (λ r. words_at r.0 r.1.now r.2.now r.3.now r.4.now) l.rows)
