use Rattle.std.proofs.Common.{◌∙◌, subst}
use Rattle.fx_walk.specs.Lists.{ArePlacesOf}
use Rattle.fx_walk.proofs.Lookups.{among_places}
use Rattle.fx_walk.proofs.names.Names.contains.Goals as goal

pub returns : goal.returns
returns c =
    let places = subst (ArePlacesOf c.self.inside.places) c.self.view_is c.self.invariant in
    rw (c.as_str.ensures.text) at c.contains_key.ensures
    ∙ among_places c.self.inside.places c.args.self.now places c.args.name.now
