use Rattle.std.proofs.Common.{◌∙◌, Option, sym, ap}
use Rattle.fx_tables.specs.Network.{Net, Process}
use Rattle.fx_leaf.specs.Tables.{handled_entry}
use Rattle.fx_leaf.proofs.CausesAt.{past_too, there_too}
use Rattle.fx_leaf.proofs.table.Verdicts.handled_verdict_at.Goals as goal

pub returns-in-None : goal.returns-in-None
returns-in-None c =
    let t = c.args.self.now.tables.now in
    let same = c.processes.ensures ∙ ap (λ (n : Net). n.processes) c.net.ensures in
    sym (ap (λ (p : Option Process). handled_entry c.args.self.now.rows.now t.net t.numbering c.args.self.now.region.now
    c.args.number c.args.layout.now p) (past_too c.processes.result.now t.net.processes c.args.process same
    c.in-None.ensures.lookup.3))

pub returns-in-Some : goal.returns-in-Some
returns-in-Some c =
    let t = c.args.self.now.tables.now in
    let same = c.processes.ensures ∙ ap (λ (n : Net). n.processes) c.net.ensures in
    let process = c.in-Some.found.now in
    let at = c.in-Some.ensures.lookup.3 in
    c.handled_verdict.ensures
    ∙ sym (ap (λ (p : Option Process). handled_entry c.args.self.now.rows.now t.net t.numbering
    c.args.self.now.region.now c.args.number c.args.layout.now p)
    (there_too c.processes.result.now t.net.processes c.args.process process same at.0 (at.1 process)))
