use Rattle.std.proofs.Common.{◌∙◌, List, ap, ℕ}
use Rattle.fx_tables.specs.Network.{at_places}
use Rattle.fx_leaf.specs.Tables.{entry}
use Rattle.fx_leaf.specs.Verdicts.{Verdict, sent_verdict, verdict_of_both}
use Rattle.fx_leaf.proofs.RemainingMatches.{all_taken}
use Rattle.fx_leaf.proofs.table.Verdicts.handled_verdict.Goals as goal

pub returns : goal.returns
returns c =
    let t = c.args.self.now.tables.now in
    let table = c.args.self.now.rows.now in
    let region = c.args.self.now.region.now in
    let process = c.args.process.now in
    let same = all_taken table t.net t.numbering region c.args.layout.now process.aggregations c.args.remaining.now
    c.bounds_hold.ensures c.requires.remain in
    let forwarded = c.sent_verdict-forwarded.ensures
    ∙ ap (λ (ps : List ℕ). sent_verdict (entry table) t.net c.args.number (at_places t.net.exporters ps))
    c.exporters.ensures in
    c.verdict_of_both.ensures
    ∙ ap (λ (v : Verdict). verdict_of_both v c.all_taken_verdict-taken.result) forwarded
    ∙ ap (verdict_of_both (sent_verdict (entry table) t.net c.args.number
    (at_places t.net.exporters process.exporters))) (c.all_taken_verdict-taken.ensures ∙ same)
