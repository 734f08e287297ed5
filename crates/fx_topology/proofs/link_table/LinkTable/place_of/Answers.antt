use Rattle.std.proofs.Common.{◌∙◌, subst}
use Rattle.fx_topology.specs.Starts.{ArePlacesOfLinks}
use Rattle.fx_topology.proofs.StartsFindLinks.{place_of_start}
use Rattle.fx_topology.proofs.link_table.LinkTable.place_of.Goals as goal

pub returns : goal.returns
returns c =
    let places = subst (ArePlacesOfLinks c.self.inside.places) c.self.view_is c.self.invariant in
    c.copied.ensures
    ∙ (c.get.ensures.value ∙ place_of_start c.self.inside.places c.args.self.now c.in_ok-start.start c.args.device.now
    c.args.exporting_process.now c.args.destination.now places c.in_ok-start.ensures)
