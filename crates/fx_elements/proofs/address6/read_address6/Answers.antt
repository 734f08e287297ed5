use Rattle.std.proofs.Common.{◌≡◌, sym, ◌∙◌, arith, Some, None}
use Rattle.fx_elements.specs.Address6.{cut_at_zeros}
use Rattle.fx_elements.proofs.AnyAddress.{whole_none, whole_other, whole_some, before_none, after_none, both_few, round_none, round_some, address6_fits, sums_fit}
use Rattle.fx_elements.proofs.address6.read_address6.Goals as goal

pub returns-in_err-side-clause-value : goal.returns-in_err-side-clause-value
returns-in_err-side-clause-value c =
    let cut : cut_at_zeros c.args.text.now ≡ None = rw c.in_default.is at (sym c.cut_zeros.ensures) in
    c.from_residual.ensures ∙ sym (whole_none c.args.text.now cut (sym c.in_err-side.ensures))

pub returns-then-side-ne8-clause-value : goal.returns-then-side-ne8-clause-value
returns-then-side-ne8-clause-value c =
    let cut : cut_at_zeros c.args.text.now ≡ None = rw c.in_default.is at (sym c.cut_zeros.ensures) in
    sym (whole_other c.args.text.now c.in_ok-side.side cut (sym c.in_ok-side.ensures) c.if-side-ne8.true)

pub returns-in_default-clause-value : goal.returns-in_default-clause-value
returns-in_default-clause-value c =
    let cut : cut_at_zeros c.args.text.now ≡ None = rw c.in_default.is at (sym c.cut_zeros.ensures) in
    sym (whole_some c.args.text.now c.in_ok-side.side cut (sym c.in_ok-side.ensures) c.if-side-ne8.false)

pub returns-in_err-before-clause-value : goal.returns-in_err-before-clause-value
returns-in_err-before-clause-value c =
    let cut : cut_at_zeros c.args.text.now ≡ Some (c.in-Some.front.now, c.in-Some.back.now) =
    sym (rw c.in-Some.is at c.cut_zeros.ensures) in
    c.from_residual-in_err-before.ensures ∙ sym (before_none c.args.text.now _ cut (sym c.in_err-before.ensures))

pub returns-in_err-after-clause-value : goal.returns-in_err-after-clause-value
returns-in_err-after-clause-value c =
    let cut : cut_at_zeros c.args.text.now ≡ Some (c.in-Some.front.now, c.in-Some.back.now) =
    sym (rw c.in-Some.is at c.cut_zeros.ensures) in
    c.from_residual-in_err-after.ensures ∙ sym (after_none c.args.text.now _ cut (sym c.in_err-after.ensures))

pub overflow_add-before : goal.overflow_add-before
overflow_add-before c =
    let cut : cut_at_zeros c.args.text.now ≡ Some (c.in-Some.front.now, c.in-Some.back.now) =
    sym (rw c.in-Some.is at c.cut_zeros.ensures) in
    let few = both_few c.args.text.now _ c.in_ok-before.before c.in_ok-after.after cut (sym c.in_ok-before.ensures)
    (sym c.in_ok-after.ensures) in
    omega (arith, few.0, few.1)

pub returns-then-before-after-gt7-clause-value : goal.returns-then-before-after-gt7-clause-value
returns-then-before-after-gt7-clause-value c =
    let cut : cut_at_zeros c.args.text.now ≡ Some (c.in-Some.front.now, c.in-Some.back.now) =
    sym (rw c.in-Some.is at c.cut_zeros.ensures) in
    sym (round_none c.args.text.now _ c.in_ok-before.before c.in_ok-after.after cut (sym c.in_ok-before.ensures)
    (sym c.in_ok-after.ensures) c.if-before-after-gt7.true)

pub overflow_mul-one_zero : goal.overflow_mul-one_zero
overflow_mul-one_zero c =
    let cut : cut_at_zeros c.args.text.now ≡ Some (c.in-Some.front.now, c.in-Some.back.now) =
    sym (rw c.in-Some.is at c.cut_zeros.ensures) in
    let is = round_some c.args.text.now _ c.in_ok-before.before c.in_ok-after.after cut (sym c.in_ok-before.ensures)
    (sym c.in_ok-after.ensures) c.if-before-after-gt7.false in
    let fits = address6_fits c.args.text.now _ is in
    let small = (sums_fit c.in_ok-before.before.value c.in_ok-before.before.count c.in_ok-after.after.value fits).0 in
    omega (arith, small)

pub pow-requires : goal.pow-requires
pow-requires c =
    let cut : cut_at_zeros c.args.text.now ≡ Some (c.in-Some.front.now, c.in-Some.back.now) =
    sym (rw c.in-Some.is at c.cut_zeros.ensures) in
    let is = round_some c.args.text.now _ c.in_ok-before.before c.in_ok-after.after cut (sym c.in_ok-before.ensures)
    (sym c.in_ok-after.ensures) c.if-before-after-gt7.false in
    let fits = address6_fits c.args.text.now _ is in
    (sums_fit c.in_ok-before.before.value c.in_ok-before.before.count c.in_ok-after.after.value fits).1

pub overflow_mul-result : goal.overflow_mul-result
overflow_mul-result c =
    let cut : cut_at_zeros c.args.text.now ≡ Some (c.in-Some.front.now, c.in-Some.back.now) =
    sym (rw c.in-Some.is at c.cut_zeros.ensures) in
    let is = round_some c.args.text.now _ c.in_ok-before.before c.in_ok-after.after cut (sym c.in_ok-before.ensures)
    (sym c.in_ok-after.ensures) c.if-before-after-gt7.false in
    let fits = address6_fits c.args.text.now _ is in
    rw c.pow.ensures (omega (arith, fits))

pub overflow_add-result : goal.overflow_add-result
overflow_add-result c =
    let cut : cut_at_zeros c.args.text.now ≡ Some (c.in-Some.front.now, c.in-Some.back.now) =
    sym (rw c.in-Some.is at c.cut_zeros.ensures) in
    let is = round_some c.args.text.now _ c.in_ok-before.before c.in_ok-after.after cut (sym c.in_ok-before.ensures)
    (sym c.in_ok-after.ensures) c.if-before-after-gt7.false in
    let fits = address6_fits c.args.text.now _ is in
    rw c.pow.ensures (omega (arith, fits))

pub returns-clause-value : goal.returns-clause-value
returns-clause-value c =
    let cut : cut_at_zeros c.args.text.now ≡ Some (c.in-Some.front.now, c.in-Some.back.now) =
    sym (rw c.in-Some.is at c.cut_zeros.ensures) in
    let is = round_some c.args.text.now _ c.in_ok-before.before c.in_ok-after.after cut (sym c.in_ok-before.ensures)
    (sym c.in_ok-after.ensures) c.if-before-after-gt7.false in
    rw c.pow.ensures (sym is)

pub returns-clause-bound : goal.returns-clause-bound
returns-clause-bound c =
    let cut : cut_at_zeros c.args.text.now ≡ Some (c.in-Some.front.now, c.in-Some.back.now) =
    sym (rw c.in-Some.is at c.cut_zeros.ensures) in
    let is = round_some c.args.text.now _ c.in_ok-before.before c.in_ok-after.after cut (sym c.in_ok-before.ensures)
    (sym c.in_ok-after.ensures) c.if-before-after-gt7.false in
    let fits = address6_fits c.args.text.now _ is in
    rw c.pow.ensures (omega (arith, fits))
