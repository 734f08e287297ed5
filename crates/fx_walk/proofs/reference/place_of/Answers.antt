use Rattle.std.proofs.Common.{◌∙◌, sym}
use Rattle.std.specs.Str.{bytes_eq}
use Rattle.fx_walk.proofs.Places.{position-map}
use Rattle.fx_walk.proofs.reference.place_of.Goals as goal

pub returns : goal.returns
returns g c = c.position_of.ensures ∙ sym (position-map (λ n. bytes_eq n c.args.name.now) g.T.Named.name
    c.args.named.now)
