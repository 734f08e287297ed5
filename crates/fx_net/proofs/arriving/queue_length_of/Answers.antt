use Rattle.std.proofs.Common.{Option, ℕ, ◌∙◌, sym, ap, refl, Some, length}
use Rattle.std.specs.Option.{option_map}
use Rattle.fx_link.specs.Ongoing.{Ongoing}
use Rattle.fx_net.proofs.Lookups.{found_in}
use Rattle.fx_net.proofs.arriving.queue_length_of.Goals as goal

pub returns : goal.returns
returns c =
    let link = c.in_ok-link.link.now in
    let at = c.in_ok-link.ensures.lookup.3 in
    ap (λ (n : ℕ). Some n) c.queue_length.ensures
    ∙ sym (ap (λ (l : Option Ongoing). option_map (λ (o : Ongoing). length o.queue) l)
    (found_in c.args.links.now c.args.links.now c.args.link link refl at.0 (at.1 link)))
