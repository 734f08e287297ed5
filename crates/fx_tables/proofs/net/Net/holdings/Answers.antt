use Rattle.std.proofs.Common.{ap, ◌∙◌}
use Rattle.std.proofs.lemmas.List.{take_all}
use Rattle.std.proofs.lemmas.Result.{err_from_is_err_and}
use Rattle.fx_tables.specs.Holdings.{met_holdings}
use Rattle.fx_tables.proofs.Meterings.{holdings_more}
use Rattle.fx_tables.proofs.net.Net.holdings.Goals as goal

pub loop-occurrence-preserved : goal.loop-occurrence-preserved
loop-occurrence-preserved c = holdings_more c.args.self.now.holders c.args.fields.now c.loop-occurrence.occurrence-index
    c.args.occurrences.now _ _ _ _ c.loop-occurrence-test.true c.loop-occurrence.invariant c.holding.ensures
    c.in_ok-push.ensures.items

pub returns-in_err-push : goal.returns-in_err-push
returns-in_err-push c =
    let p = err_from_is_err_and c.from_residual.result c.from_residual.ensures.1 in
    rw (p.1) tt

pub returns : goal.returns
returns c = c.loop-occurrence.invariant
    ∙ ap (met_holdings c.args.self.now.holders c.args.fields.now)
    (take_all c.loop-occurrence.occurrence-index c.args.occurrences.now c.loop-occurrence-test.false)
