use Rattle.std.proofs.Common.{◌∙◌, subst}
use Rattle.fx_walk.specs.Lists.{ArePlacesOf}
use Rattle.fx_walk.proofs.names.Names.place_of.Goals as goal

pub returns : goal.returns
returns c =
    let places = subst (ArePlacesOf c.self.inside.places) c.self.view_is c.self.invariant in
    c.copied.ensures ∙ (rw (c.as_str.ensures.text) at c.get.ensures.value ∙ places c.args.name.now)
