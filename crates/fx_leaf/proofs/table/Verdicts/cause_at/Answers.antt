use Rattle.std.proofs.Common.{◌∙◌, ap}
use Rattle.fx_tables.specs.Network.{Net}
use Rattle.fx_leaf.proofs.CausesAt.{cause_there, no_cause_there, no_process, past_too, there_too}
use Rattle.fx_leaf.proofs.table.Verdicts.cause_at.Goals as goal

pub returns-in-None-clause-none : goal.returns-in-None-clause-none
returns-in-None-clause-none c layout is =
    let t = c.args.self.now.tables.now in
    let same = c.processes.ensures ∙ ap (λ (n : Net). n.processes) c.net.ensures in
    no_process t c.args.self.now.region.now c.args.self.now.rows.now c.args.process c.args.number
    (past_too c.processes.result.now t.net.processes c.args.process same c.in-None.ensures.lookup.3) layout

pub returns-in-Some-get-clause-some : goal.returns-in-Some-get-clause-some
returns-in-Some-get-clause-some c =
    let t = c.args.self.now.tables.now in
    let same = c.processes.ensures ∙ ap (λ (n : Net). n.processes) c.net.ensures in
    let layout = c.in-Some.layout.now in
    let process = c.in-Some-get.found.now in
    let layout_at = c.in-Some.ensures.lookup.3 in
    let process_at = c.in-Some-get.ensures.lookup.3 in
    cause_there t c.args.self.now.region.now c.args.self.now.rows.now c.args.process c.args.number layout process
    (there_too c.layouts.result.now t.numbering.layouts c.args.number layout c.layouts.ensures layout_at.0
    (layout_at.1 layout)) (there_too c.processes.result.now t.net.processes c.args.process process same process_at.0
    (process_at.1 process)) c.cause_in_process.result c.cause_in_process.ensures.some

pub returns-in-Some-get-clause-none : goal.returns-in-Some-get-clause-none
returns-in-Some-get-clause-none c =
    let t = c.args.self.now.tables.now in
    let same = c.processes.ensures ∙ ap (λ (n : Net). n.processes) c.net.ensures in
    let layout = c.in-Some.layout.now in
    let process = c.in-Some-get.found.now in
    let layout_at = c.in-Some.ensures.lookup.3 in
    let process_at = c.in-Some-get.ensures.lookup.3 in
    no_cause_there t c.args.self.now.region.now c.args.self.now.rows.now c.args.process c.args.number layout process
    (there_too c.layouts.result.now t.numbering.layouts c.args.number layout c.layouts.ensures layout_at.0
    (layout_at.1 layout)) (there_too c.processes.result.now t.net.processes c.args.process process same process_at.0
    (process_at.1 process)) c.cause_in_process.result c.cause_in_process.ensures.none
