use Rattle.std.proofs.Common.{◌++◌, ◌∙◌, sym, ap, append_assoc, List, ℕ, take, get_or, Option, None}
use Rattle.fx_machine.specs.Sends.{link_list, links_of}
use Rattle.fx_machine.proofs.Lists.{links_more}
use Rattle.fx_machine.proofs.sending.push_links.Goals as goal

pub loop-destination-preserved : goal.loop-destination-preserved
loop-destination-preserved c =
    let ds = c.args.destinations.now in
    let n = c.loop-destination.destination-index in
    let front = c.args.links.now.items in
    let d : Option ℕ = None in
    c.in_ok-push_link.ensures ∙ ap (λ (xs : List ℕ). xs ++ link_list (get_or ds n d)) c.loop-destination.invariant
    ∙ append_assoc front (links_of (take n ds)) (link_list (get_or ds n d))
    ∙ ap (λ (xs : List ℕ). front ++ xs) (sym (links_more ds n d c.loop-destination-test.true))
