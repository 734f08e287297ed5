use Rattle.std.proofs.Common.{Option, ℕ, sym, ap}
use Rattle.fx_net.specs.Doings.{leads_to}
use Rattle.fx_net.proofs.Lookups.{found_in, none_in}
use Rattle.fx_net.proofs.closing.leads_to.Goals as goal

pub returns-in-None : goal.returns-in-None
returns-in-None c =
    sym (ap (λ (to : Option ℕ). leads_to to c.args.process)
    (none_in c.links.result.now c.args.net.now.links c.args.link c.links.ensures c.in-None.ensures.lookup.3))

pub returns-in-Some : goal.returns-in-Some
returns-in-Some c =
    let to = c.in-Some.to.now in
    let at = c.in-Some.ensures.lookup.3 in
    sym (ap (λ (to : Option ℕ). leads_to to c.args.process)
    (found_in c.links.result.now c.args.net.now.links c.args.link to c.links.ensures at.0 (at.1 to)))
