use Rattle.std.proofs.Common.{subst, sym, ap, ◌∙◌, Bool, List, slice_get}
use Rattle.fx_tables.specs.Classes.{Class}
use Rattle.fx_parts.specs.Joins.{IsJoined, Joined, joined}
use Rattle.fx_parts.specs.Parts.{IsCertifiedPart}
use Rattle.fx_parts.proofs.Checked.{holds_on}
use Rattle.fx_parts.proofs.Joins.{marked_too}
use Rattle.fx_parts.proofs.join.Join.cover.Goals as goal

pub invariant_of-self : goal.invariant_of-self
invariant_of-self c =
    let inside = c.self.inside in
    let covering = holds_on c.in_ok-covers.covers _ c.if-covers.true c.in_ok-covers.ensures in
    let certified = subst (λ (j : Joined). IsCertifiedPart j.whole c.args.part.now) (sym c.self.view_is) c.requires in
    let there = sym (c.in-Some.ensures ∙ ap (λ (xs : List Class). slice_get xs c.args.located.index) c.as_slice.ensures)
    in
    subst (λ (xs : List Bool). IsJoined (joined inside.whole.now inside.classes.now xs)) (sym c.mark.ensures)
    (marked_too (joined inside.whole.now inside.classes.now inside.covered.items) c.args.part.now c.args.located.index
    c.args.located.number c.in-Some.class.now covering.0 c.self.invariant certified there covering.1
    covering.2)
