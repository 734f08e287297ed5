use Rattle.std.proofs.Common.{◌∙◌, ap, sym, suc, arith, ◌++◌}
use Rattle.fx_elements.specs.Axes.{axis_index}
use Rattle.fx_layout.specs.Keys.{Layout}
use Rattle.fx_session.proofs.Layouts.{before-more, before-push, with_part-last, can_add, part_by-some}
use Rattle.fx_session.proofs.key.add_part.Goals as goal

pub unreachable-requires : goal.unreachable-requires
unreachable-requires c =
    let e = c.in-None.ensures.exact ∙ can_add c.args.layout.now (record { axis = c.args.axis; bits = c.args.bits })
    (c.requires.stands c.if-bits-eq0.false) c.requires.later in
    cc e

pub returns-then-bits-eq0-clause-before : goal.returns-then-bits-eq0-clause-before
returns-then-bits-eq0-clause-before c = let b =
    before-more c.args.layout.now _ (suc (axis_index c.args.axis)) c.requires.later (omega arith) in rw c.copy.ensures b

pub returns-clause-value : goal.returns-clause-value
returns-clause-value c =
    c.in-Some.ensures.value ∙ with_part-last c.args.layout.now (record { axis = c.args.axis; bits = c.args.bits })
    c.requires.later
    ∙ ap (λ (l : Layout). c.args.layout.now ++ l) (sym (part_by-some c.args.axis c.args.bits c.if-bits-eq0.false))

pub returns-clause-before : goal.returns-clause-before
returns-clause-before c =
    let value = c.in-Some.ensures.value ∙ with_part-last c.args.layout.now
    (record { axis = c.args.axis; bits = c.args.bits }) c.requires.later in
    rw value (before-push c.args.layout.now (record { axis = c.args.axis; bits = c.args.bits }) c.requires.later)
