use Rattle.std.proofs.Common.{◌∙◌, sym}
use Rattle.fx_net.specs.Doings.{Ended, CarriesWhole}
use Rattle.fx_net.proofs.OneAfterAnother.{where_so, where_not}
use Rattle.fx_net.proofs.contents.Contents.carry_into.Goals as goal

pub returns-then-not-leads_to-clause-ok : goal.returns-then-not-leads_to-clause-ok
returns-then-not-leads_to-clause-ok g c =
    where_not _ (Ended (CarriesWhole c.args.net.now c.args.link)) (g.L.Links.put_on c.args.links.now) c.args.self.now
    (sym c.leads_to.ensures ∙ c.if-not-leads_to.true)

pub returns-clause-ok : goal.returns-clause-ok
returns-clause-ok g c =
    where_so _ (Ended (CarriesWhole c.args.net.now c.args.link)) _ _ _ _
    (sym c.leads_to.ensures ∙ c.if-not-leads_to.false) c.in_ok-carry_out.ensures.ok
