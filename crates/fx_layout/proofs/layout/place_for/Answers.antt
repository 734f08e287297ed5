use Rattle.std.proofs.Common.{Bool, length, nat_lt, ap, ap₂, sym, ◌∙◌, arith, below_more}
use Rattle.std.proofs.lemmas.Bool.{le-ltb, lt-ltb}
use Rattle.std.proofs.lemmas.List.{get_or_default}
use Rattle.std.proofs.lemmas.List.Sums.{position_or_len_is}
use Rattle.fx_elements.specs.Axes.{axis_index}
use Rattle.fx_layout.specs.declared.layout.Part.{Part}
use Rattle.fx_layout.proofs.layout.place_for.Goals as goal

pub returns-then-index-clause-place : goal.returns-then-index-clause-place
returns-then-index-clause-place c =
    let later : Part → Bool = λ part. nat_lt (axis_index c.args.axis) (axis_index part.axis) in
    sym (position_or_len_is later c.args.parts.now c.loop-place.place _ (omega arith) (c.loop-place.invariant _)
    (λ _. ap₂ nat_lt (sym c.index.ensures.place) (sym c.index-in-loop-place.ensures.place)
    ∙ lt-ltb _ _ c.if-index.true))

pub loop-place-preserved : goal.loop-place-preserved
loop-place-preserved c = λ d.
    let later : Part → Bool = λ part. nat_lt (axis_index c.args.axis) (axis_index part.axis) in
    below_more _ _ (c.loop-place.invariant d)
    (ap later (get_or_default c.args.parts.now c.loop-place.place d _ c.loop-place-test.true)
    ∙ (ap₂ nat_lt (sym c.index.ensures.place) (sym c.index-in-loop-place.ensures.place)
    ∙ le-ltb _ _ c.if-index.false))

pub returns-clause-place : goal.returns-clause-place
returns-clause-place c =
    let later : Part → Bool = λ part. nat_lt (axis_index c.args.axis) (axis_index part.axis) in
    let any : Part = record { axis = c.args.axis; bits = 0 } in
    sym (position_or_len_is later c.args.parts.now (length c.args.parts.now) any (omega arith)
    (λ k lt. c.loop-place.invariant any k (omega arith)) (λ lt. absurd (omega arith)))
