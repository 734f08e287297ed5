use Rattle.std.proofs.Common.{◌∙◌, sym, ap, List, ℕ, drop, get_or, ◌+◌, Option, None}
use Rattle.std.proofs.lemmas.List.{drop_all, drop_more}
use Rattle.fx_link.specs.Ongoing.{Ongoing}
use Rattle.fx_machine.specs.Sends.{link_list, links_of}
use Rattle.fx_net.specs.Exporting.{put_each}
use Rattle.fx_net.proofs.ChangedLists.{put_each_more}
use Rattle.fx_net.proofs.exporting.put_to_all.Goals as goal

pub loop-destination-preserved : goal.loop-destination-preserved
loop-destination-preserved c =
    let t = c.args.time in
    let r = c.args.flow.now in
    let ds = c.args.destinations.now in
    let n = c.loop-destination.destination-index in
    let links = c.loop-destination.links.items in
    let d : Option ℕ = None in
    ap (λ (os : List Ongoing). put_each t r (links_of (drop (n + 1) ds)) os) c.in_ok-put_to.ensures.ok
    ∙ put_each_more t r (link_list (get_or ds n d)) (links_of (drop (n + 1) ds)) links
    ∙ ap (λ (xs : List (Option ℕ)). put_each t r (links_of xs) links)
    (sym (drop_more ds n d c.loop-destination-test.true)) ∙ c.loop-destination.invariant

pub returns-clause-ok : goal.returns-clause-ok
returns-clause-ok c =
    let links = c.loop-destination.links.items in
    sym (ap (λ (xs : List (Option ℕ)). put_each c.args.time c.args.flow.now (links_of xs) links)
    (drop_all c.loop-destination.destination-index c.args.destinations.now c.loop-destination-test.false))
    ∙ c.loop-destination.invariant
