use Rattle.std.proofs.Common.{◌∙◌, ap, sym}
use Rattle.fx_tables.specs.Network.{Net}
use Rattle.fx_leaf.proofs.CausesAt.{no_link, none_of, past_too, some_of, there_too, with_verdict, without_verdict}
use Rattle.fx_leaf.proofs.table.Verdicts.cause_at_destination.Goals as goal

pub returns-in_default-clause-none : goal.returns-in_default-clause-none
returns-in_default-clause-none c =
    let net = c.args.self.now.tables.now.net in
    let same = c.links.ensures ∙ ap (λ (n : Net). n.links) c.net.ensures in
    no_link c.args.self.now.rows.now net c.args.number c.in_ok-link.link c.args.destination c.in_ok-link.was
    (past_too c.links.result.now net.links c.in_ok-link.link same c.in_default.ensures.lookup.3)

pub returns-then-is_none-clause-some : goal.returns-then-is_none-clause-some
returns-then-is_none-clause-some c =
    let net = c.args.self.now.tables.now.net in
    let same = c.links.ensures ∙ ap (λ (n : Net). n.links) c.net.ensures in
    let here = c.in-Some.ensures.lookup.3 in
    let process = c.in-Some.process.now in
    without_verdict c.args.self.now.rows.now net c.args.number c.in_ok-link.link c.args.destination c.in_ok-link.was
    process (there_too c.links.result.now net.links c.in_ok-link.link process same here.0 (here.1 process))
    (sym c.entry.ensures ∙ none_of c.entry.result c.if-is_none.ensures)

pub returns-else-is_none-clause-none : goal.returns-else-is_none-clause-none
returns-else-is_none-clause-none c =
    let net = c.args.self.now.tables.now.net in
    let same = c.links.ensures ∙ ap (λ (n : Net). n.links) c.net.ensures in
    let here = c.in-Some.ensures.lookup.3 in
    let process = c.in-Some.process.now in
    with_verdict c.args.self.now.rows.now net c.args.number c.in_ok-link.link c.args.destination c.in_ok-link.was
    process (there_too c.links.result.now net.links c.in_ok-link.link process same here.0 (here.1 process))
    (λ e. some_of c.entry.result c.if-is_none.ensures (c.entry.ensures ∙ e))
