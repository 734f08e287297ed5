use Rattle.std.proofs.Common.{◌≡◌, List, [], ◌∷◌, ◌++◌, not, if◌then◌else◌, sym, ap, ◌∙◌, subst, arith, true≢false}
use Rattle.fx_topology.specs.declared.link.NamedLink.{NamedLink}
use Rattle.fx_topology.specs.Links.{starts_there}
use Rattle.fx_topology.proofs.StartsFindLinks.{known_placed, known_there, new_behind, new_placed}
use Rattle.fx_topology.proofs.link_table.LinkTable.add.Goals as goal

pub invariant_of-self-then-not-branch : goal.invariant_of-self-then-not-branch
invariant_of-self-then-not-branch c =
    let kept = c.in_ok-keep_place.ensures in
    known_placed c.self.inside.links.items c.args.link c.in_ok-keep_place.field-0 kept.answer c.keep_place.new.places
    c.keep_place.new.links.items c.if-not-branch.true kept.places kept.links

pub returns-then-not-branch-clause-answer : goal.returns-then-not-branch-clause-answer
returns-then-not-branch-clause-answer c =
    sym c.if-not-branch.true ∙ c.in_ok-keep_place.ensures.answer
    ∙ ap (λ (ls : List NamedLink). not (starts_there ls c.args.link)) c.self.view_is

pub returns-then-not-branch-clause-links : goal.returns-then-not-branch-clause-links
returns-then-not-branch-clause-links c =
    let kept = c.in_ok-keep_place.ensures in
    subst (λ (ls : List NamedLink). c.keep_place.new.links.items
    ≡ (if starts_there ls c.args.link then ls else ls ++ c.args.link ∷ [])) c.self.view_is
    (known_there c.self.inside.links.items c.args.link c.in_ok-keep_place.field-0 kept.answer
    c.keep_place.new.links.items c.if-not-branch.true kept.links)

pub invariant_of-self-2 : goal.invariant_of-self-2
invariant_of-self-2 c =
    let kept = c.in_ok-keep_place.ensures in
    new_placed c.self.inside.links.items c.args.link c.in_ok-keep_place.field-0 kept.answer c.keep_place.new.places
    c.keep_place.new.links.items c.push.new.self.items c.if-not-branch.false kept.places kept.links
    c.in_ok-push.ensures.items

pub returns-clause-answer : goal.returns-clause-answer
returns-clause-answer c =
    sym c.if-not-branch.false ∙ c.in_ok-keep_place.ensures.answer
    ∙ ap (λ (ls : List NamedLink). not (starts_there ls c.args.link)) c.self.view_is

pub returns-clause-links : goal.returns-clause-links
returns-clause-links c =
    let kept = c.in_ok-keep_place.ensures in
    subst (λ (ls : List NamedLink). c.push.new.self.items
    ≡ (if starts_there ls c.args.link then ls else ls ++ c.args.link ∷ [])) c.self.view_is
    (new_behind c.self.inside.links.items c.args.link c.in_ok-keep_place.field-0 kept.answer
    c.keep_place.new.links.items c.push.new.self.items c.if-not-branch.false kept.links c.in_ok-push.ensures.items)

pub invariant_of-self-in_err-push : goal.invariant_of-self-in_err-push
invariant_of-self-in_err-push c = absurd (true≢false
    (sym (c.in_err-push.ensures.succeeds (grind (arith, c.in_ok-keep_place.ensures.room)))))

pub invariant_of-self : goal.invariant_of-self
invariant_of-self c = rw (c.in_err-keep_place.ensures.links) c.in_err-keep_place.ensures.same

pub returns-in_err-push-clause-err : goal.returns-in_err-push-clause-err
returns-in_err-push-clause-err c = absurd (true≢false
    (sym (c.in_err-push.ensures.succeeds (grind (arith, c.in_ok-keep_place.ensures.room)))))
