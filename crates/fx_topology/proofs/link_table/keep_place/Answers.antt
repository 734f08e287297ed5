use Rattle.std.proofs.Common.{◌≡◌, not, length, true, false, sym, ap, ◌∙◌, arith, Result, Ok, Err, OnErr}
use Rattle.fx_topology.specs.Links.{starts_there}
use Rattle.fx_topology.proofs.StartsFindLinks.{starts_placed, places_behind}
use Rattle.fx_topology.proofs.link_table.keep_place.Goals as goal

on_err : {X E P : Type 0} (r : Result X E) → P → OnErr r P
on_err (Ok x) p = tt
on_err (Err e) p = p

pub returns-then-contains_key-clause-answer : goal.returns-then-contains_key-clause-answer
returns-then-contains_key-clause-answer c =
    let placed = starts_placed c.args.places.now c.args.links.now.items c.in_ok-start.start c.args.link.now c.requires
    c.in_ok-start.ensures in
    sym (ap not (sym placed ∙ (sym c.contains_key.ensures ∙ c.if-contains_key.true)))

pub returns-then-contains_key-clause-places : goal.returns-then-contains_key-clause-places
returns-then-contains_key-clause-places c =
    let placed = starts_placed c.args.places.now c.args.links.now.items c.in_ok-start.start c.args.link.now c.requires
    c.in_ok-start.ensures in
    let there : starts_there c.args.links.now.items c.args.link.now ≡ true = sym placed
    ∙ (sym c.contains_key.ensures ∙ c.if-contains_key.true) in
    rw there c.requires

pub returns-clause-answer : goal.returns-clause-answer
returns-clause-answer c =
    let placed = starts_placed c.args.places.now c.args.links.now.items c.in_ok-start.start c.args.link.now c.requires
    c.in_ok-start.ensures in
    sym (ap not (sym placed ∙ (sym c.contains_key.ensures ∙ c.if-contains_key.false)))

pub returns-clause-places : goal.returns-clause-places
returns-clause-places c =
    let links = c.args.links.now.items in
    let placed = starts_placed c.args.places.now links c.in_ok-start.start c.args.link.now c.requires
    c.in_ok-start.ensures in
    let absent : starts_there links c.args.link.now ≡ false = sym placed
    ∙ (sym c.contains_key.ensures ∙ c.if-contains_key.false) in
    let count : c.len.result ≡ length links =
    omega (arith, c.len.ensures, c.in_ok-reserve.ensures.len, c.args.links.now.ok.0) in
    rw absent (places_behind c.args.places.now c.insert.new.self links c.in_ok-start.start c.args.link.now c.len.result
    c.requires c.in_ok-start.ensures absent count c.in_ok-insert.ensures.updates)

pub returns-in_err-insert-clause-same : goal.returns-in_err-insert-clause-same
returns-in_err-insert-clause-same c = on_err c.from_residual-in_err-insert.result
    (rw (c.in_err-insert.ensures.err) c.requires)
