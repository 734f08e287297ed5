use Rattle.std.proofs.Common.{◌≡◌, ap, sym, ◌∙◌, arith, None, Some}
use Rattle.fx_elements.specs.Address6.{any_group_of, no_groups, side_with}
use Rattle.fx_elements.specs.Spelling.{cut_at}
use Rattle.fx_elements.proofs.Sizes.{seven_fit, six_fit, more_fits}
use Rattle.fx_elements.proofs.Pieces.{side_empty, side_begins, side_more, side_stuck, side_last, side_full}
use Rattle.fx_elements.proofs.address6.read_side.Goals as goal

pub returns-then-is_empty : goal.returns-then-is_empty
returns-then-is_empty c = sym (side_empty c.args.ends c.args.text.now (sym c.is_empty.ensures ∙ c.if-is_empty.true))

pub loop-side-init : goal.loop-side-init
loop-side-init c = record {
  few = omega arith;
  fits = omega arith;
  same = ap (side_with no_groups) (side_begins c.args.ends c.args.text.now
      (sym c.is_empty.ensures ∙ c.if-is_empty.false));
}

pub read_last-requires-clause-fits : goal.read_last-requires-clause-fits
read_last-requires-clause-fits c = seven_fit c.loop-side.side.value c.loop-side.side.count c.loop-side.invariant.fits
    (omega arith)

pub read_last-requires-clause-short : goal.read_last-requires-clause-short
read_last-requires-clause-short c = λ less. six_fit c.loop-side.side.value c.loop-side.side.count
    c.loop-side.invariant.fits less

pub returns-in_default : goal.returns-in_default
returns-in_default c =
    let last : cut_at 58 c.loop-side.rest.now ≡ None = rw c.in_default.is at (sym c.split_at_byte.ensures) in
    c.read_last.ensures ∙ sym (c.loop-side.invariant.same
    ∙ side_last c.args.ends c.loop-side.side c.loop-side.rest.now last)

pub returns-in_err-group : goal.returns-in_err-group
returns-in_err-group c =
    let cut : cut_at 58 c.loop-side.rest.now ≡ Some (c.in-Some.piece.now, c.in-Some.behind.now) =
    sym (rw c.in-Some.is at c.split_at_byte.ensures) in
    let none : any_group_of c.in-Some.piece.now ≡ None = sym c.in_err-group.ensures.value in
    let is = side_stuck c.args.ends c.loop-side.side c.loop-side.rest.now (c.in-Some.piece.now, c.in-Some.behind.now)
    cut none in
    c.from_residual.ensures ∙ sym (c.loop-side.invariant.same ∙ is)

pub overflow_mul-side : goal.overflow_mul-side
overflow_mul-side c = let fits = seven_fit c.loop-side.side.value c.loop-side.side.count c.loop-side.invariant.fits
    (omega arith) in omega (arith, fits, c.in_ok-group.ensures.bound)

pub overflow_add-side-in-loop-side : goal.overflow_add-side-in-loop-side
overflow_add-side-in-loop-side c = let fits =
    seven_fit c.loop-side.side.value c.loop-side.side.count c.loop-side.invariant.fits (omega arith) in
    omega (arith, fits, c.in_ok-group.ensures.bound)

pub loop-side-preserved : goal.loop-side-preserved
loop-side-preserved c = record {
  few = omega arith;
  fits = more_fits c.loop-side.side.value c.in_ok-group.group c.loop-side.side.count c.loop-side.invariant.fits
      c.in_ok-group.ensures.bound;
  same =
      let cut : cut_at 58 c.loop-side.rest.now ≡ Some (c.in-Some.piece.now, c.in-Some.behind.now) =
      sym (rw c.in-Some.is at c.split_at_byte.ensures) in
      let group : any_group_of c.in-Some.piece.now ≡ Some c.in_ok-group.group = sym c.in_ok-group.ensures.value in
      c.loop-side.invariant.same ∙ side_more c.args.ends c.loop-side.side c.loop-side.rest.now
      (c.in-Some.piece.now, c.in-Some.behind.now) c.in_ok-group.group cut group;
}

pub returns : goal.returns
returns c = sym (c.loop-side.invariant.same ∙ side_full c.args.ends c.loop-side.side c.loop-side.rest.now (omega arith))
