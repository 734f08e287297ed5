use Rattle.std.proofs.Common.{◌≡◌, ◌<◌, ◌+◌, ◌∙◌, sym, arith, take, get_or, false, true}
use Rattle.std.specs.Char.{is_ascii_digit}
use Rattle.std.specs.Str.Parse.{digits_value}
use Rattle.fx_elements.proofs.Numbers.{not_a_number, too_large, digits_more, value_more}
use Rattle.fx_elements.proofs.spelling.read_wide_digits.Goals as goal
use Rattle.fx_elements.proofs.spelling.read_wide_digits.Goals.{then-top-digit-via-then-top-digit, then-top-digit-via-else-top-digit+then-top-digit-2}

pub returns-then-not-is_ascii_digit-clause-value : goal.returns-then-not-is_ascii_digit-clause-value
returns-then-not-is_ascii_digit-clause-value c =
    let h : is_ascii_digit (get_or c.args.text.now c.loop-b.b-index 0) ≡ false = sym c.is_ascii_digit.ensures.value
    ∙ c.if-not-is_ascii_digit.true in
    sym (not_a_number c.args.top c.args.text.now c.loop-b.b-index c.loop-b-test.true h)

pub returns-then-top-digit-clause-value : goal.returns-then-top-digit-clause-value
returns-then-top-digit-clause-value c =
    let d : is_ascii_digit (get_or c.args.text.now c.loop-b.b-index 0) ≡ true = sym c.is_ascii_digit.ensures.value
    ∙ c.if-not-is_ascii_digit.false in
    let v = value_more c.args.text.now c.loop-b.b-index c.loop-b.n c.loop-b-test.true d c.loop-b.invariant.value in
    let past : c.args.top < digits_value 10 (take (c.loop-b.b-index + 1) c.args.text.now) =
    elim c.then-top-digit.branch [
      | then-top-digit-via-then-top-digit w ↦
          omega (arith, v)
      | then-top-digit-via-else-top-digit+then-top-digit-2 w ↦ omega (arith, v)
    ] in
    sym (too_large c.args.top c.args.text.now (c.loop-b.b-index + 1) past)

pub loop-b-preserved : goal.loop-b-preserved
loop-b-preserved c =
    let d : is_ascii_digit (get_or c.args.text.now c.loop-b.b-index 0) ≡ true = sym c.is_ascii_digit.ensures.value
    ∙ c.if-not-is_ascii_digit.false in
    record {
      digits = digits_more c.args.text.now c.loop-b.b-index c.loop-b-test.true c.loop-b.invariant.digits d;
      value = value_more c.args.text.now c.loop-b.b-index c.loop-b.n c.loop-b-test.true d c.loop-b.invariant.value;
      bound = omega arith;
    }
