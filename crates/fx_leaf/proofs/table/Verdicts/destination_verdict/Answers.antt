use Rattle.std.proofs.Common.{◌∙◌, sym, ap}
use Rattle.fx_tables.specs.Network.{Net}
use Rattle.fx_leaf.specs.Tables.{entry}
use Rattle.fx_leaf.specs.Verdicts.{destination_verdict, process_verdict}
use Rattle.fx_leaf.proofs.CausesAt.{past_too, there_too}
use Rattle.fx_leaf.proofs.table.Verdicts.destination_verdict.Goals as goal

pub returns-in-None-get : goal.returns-in-None-get
returns-in-None-get c =
    let net = c.args.self.now.tables.now.net in
    let rows = c.args.self.now.rows.now in
    let same = c.links.ensures ∙ ap (λ (n : Net). n.links) c.net.ensures in
    sym (ap (destination_verdict (entry rows) net c.args.layout) c.in-Some.is
    ∙ ap (process_verdict (entry rows) c.args.layout)
    (past_too c.links.result.now net.links c.in-Some.link same c.in-None-get.ensures.lookup.3))

pub returns-in-Some-get : goal.returns-in-Some-get
returns-in-Some-get c =
    let net = c.args.self.now.tables.now.net in
    let rows = c.args.self.now.rows.now in
    let same = c.links.ensures ∙ ap (λ (n : Net). n.links) c.net.ensures in
    let process = c.in-Some-get.process.now in
    let at = c.in-Some-get.ensures.lookup.3 in
    c.entry.ensures
    ∙ sym (ap (destination_verdict (entry rows) net c.args.layout) c.in-Some.is
    ∙ ap (process_verdict (entry rows) c.args.layout)
    (there_too c.links.result.now net.links c.in-Some.link process same at.0 (at.1 process)))
