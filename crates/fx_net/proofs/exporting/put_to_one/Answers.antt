use Rattle.std.proofs.Common.{ℕ, Option, sym, ap, ◌∙◌, arith}
use Rattle.std.proofs.lemmas.Result.{on_ok_weaker}
use Rattle.fx_runs.specs.Destinations.{link_numbered, link_of}
use Rattle.fx_net.specs.Exporting.{put_each}
use Rattle.fx_net.proofs.Lookups.{found_numbered, none_numbered}
use Rattle.fx_net.proofs.exporting.put_to_one.Goals as goal

pub returns-then-number-eq0-clause-ok : goal.returns-then-number-eq0-clause-ok
returns-then-number-eq0-clause-ok c =
    sym (ap (λ (n : ℕ). put_each c.args.time c.args.flow.now (link_numbered c.args.destinations.now n)
    c.args.links.now.items) c.if-number-eq0.true)

pub returns-in-None-clause-ok : goal.returns-in-None-clause-ok
returns-in-None-clause-ok c =
    sym (ap (λ (d : Option (Option ℕ)). put_each c.args.time c.args.flow.now (link_of d) c.args.links.now.items)
    (none_numbered c.args.destinations.now c.args.number _ c.in-None.ensures.lookup.3 (omega arith)))

pub returns-in-Some-clause-ok : goal.returns-in-Some-clause-ok
returns-in-Some-clause-ok c =
    let destination = c.in-Some.destination.now in
    let at = c.in-Some.ensures.lookup.3 in
    on_ok_weaker c.put_to.result
    (λ put. put ∙ sym (ap (λ (d : Option (Option ℕ)). put_each c.args.time c.args.flow.now (link_of d)
    c.args.links.now.items)
    (found_numbered c.args.destinations.now c.args.number _ destination at.0 (at.1 destination) (omega arith))))
    c.put_to.ensures.ok
