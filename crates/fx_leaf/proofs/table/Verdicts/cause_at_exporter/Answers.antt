use Rattle.std.proofs.Common.{◌≡◌, ◌∙◌, [], Option, Some, None, ap, sym}
use Rattle.fx_tables.specs.Network.{Exporter, Net, before}
use Rattle.fx_leaf.specs.declared.verdict.Fate.TheVariants.{Never}
use Rattle.fx_leaf.specs.Tables.{entry}
use Rattle.fx_leaf.specs.Verdicts.{Verdict, sent_verdict}
use Rattle.fx_leaf.proofs.CausesAt.{by_place, past_too}
use Rattle.fx_leaf.proofs.CausesFound.{by_place_none}
use Rattle.fx_leaf.proofs.table.Verdicts.cause_at_exporter.Goals as goal

pub returns-in-Some-clause-none : goal.returns-in-Some-clause-none
returns-in-Some-clause-none c =
    let there = c.in-Some.ensures.lookup.3 in
    by_place_none c.args.self.now.rows.now c.args.self.now.tables.now.net c.args.number c.args.index
    c.exporters.result.now c.in-Some.exporter.now c.destinations.result.now c.cause_among_destinations.result
    (c.exporters.ensures ∙ ap (λ (n : Net). n.exporters) c.net.ensures) there.0 (there.1 c.in-Some.exporter.now)
    c.destinations.ensures c.cause_among_destinations.ensures.none

pub returns-in-None-clause-none : goal.returns-in-None-clause-none
returns-in-None-clause-none c = λ h.
    let net = c.args.self.now.tables.now.net in
    let same = c.exporters.ensures ∙ ap (λ (n : Net). n.exporters) c.net.ensures in
    let sent : Option Exporter → Verdict = λ e. sent_verdict (entry c.args.self.now.rows.now) net c.args.number
    (before e []) in
    let none : Some Never ≡ None = sym (ap sent
    (past_too c.exporters.result.now net.exporters c.args.index same c.in-None.ensures.lookup.3)) ∙ h in
    absurd (cc)

pub returns-in-Some-clause-some : goal.returns-in-Some-clause-some
returns-in-Some-clause-some c =
    let there = c.in-Some.ensures.lookup.3 in
    by_place c.args.self.now.rows.now c.args.self.now.tables.now.net c.args.number c.args.index c.exporters.result.now
    c.in-Some.exporter.now c.destinations.result.now c.cause_among_destinations.result
    (c.exporters.ensures ∙ ap (λ (n : Net). n.exporters) c.net.ensures) there.0 (there.1 c.in-Some.exporter.now)
    c.destinations.ensures c.cause_among_destinations.ensures.some
