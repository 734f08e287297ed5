use Rattle.std.proofs.Common.{ℕ, ◌==◌, sym, ap, ◌∙◌}
use Rattle.fx_net.specs.Arriving.{leads_to_report}
use Rattle.fx_net.proofs.Lookups.{found_in, none_in}
use Rattle.fx_net.proofs.arriving.leads_to_report.Goals as goal

pub returns-in-None : goal.returns-in-None
returns-in-None c =
    let net = c.args.net.now in
    sym (ap (leads_to_report net) (none_in c.links.result.now net.links c.args.link c.links.ensures
    c.in-None.ensures.lookup.3))

pub returns-in-Some : goal.returns-in-Some
returns-in-Some c =
    let net = c.args.net.now in
    let process = c.in-Some.process.now in
    let at = c.in-Some.ensures.lookup.3 in
    ap (λ (n : ℕ). process == n) c.report.ensures
    ∙ sym (ap (leads_to_report net) (found_in c.links.result.now net.links c.args.link process c.links.ensures at.0
    (at.1 process)))
