use Rattle.std.proofs.Common.{◌≡◌, ◌<◌, ◌+◌, ◌∙◌, sym, arith, take, get_or, false, true}
use Rattle.std.specs.Char.{is_ascii_digit}
use Rattle.std.specs.Str.Parse.{digits_value}
use Rattle.fx_elements.proofs.Numbers.{not_a_number, too_large, digits_more, value_more}
use Rattle.fx_elements.proofs.spelling.read_few_digits.Goals as goal

pub returns-then-not-is_ascii_digit-clause-value : goal.returns-then-not-is_ascii_digit-clause-value
returns-then-not-is_ascii_digit-clause-value c =
    let h : is_ascii_digit (get_or c.args.text.now c.loop-b.b-index 0) ≡ false = sym c.is_ascii_digit.ensures.value
    ∙ c.if-not-is_ascii_digit.true in
    sym (not_a_number 255 c.args.text.now c.loop-b.b-index c.loop-b-test.true h)

pub returns-then-n-gt255-clause-value : goal.returns-then-n-gt255-clause-value
returns-then-n-gt255-clause-value c =
    let d : is_ascii_digit (get_or c.args.text.now c.loop-b.b-index 0) ≡ true = sym c.is_ascii_digit.ensures.value
    ∙ c.if-not-is_ascii_digit.false in
    let v = value_more c.args.text.now c.loop-b.b-index c.loop-b.n c.loop-b-test.true d c.loop-b.invariant.value in
    let past : 255 < digits_value 10 (take (c.loop-b.b-index + 1) c.args.text.now) = omega (arith, v) in
    sym (too_large 255 c.args.text.now (c.loop-b.b-index + 1) past)

pub loop-b-preserved : goal.loop-b-preserved
loop-b-preserved c =
    let d : is_ascii_digit (get_or c.args.text.now c.loop-b.b-index 0) ≡ true = sym c.is_ascii_digit.ensures.value
    ∙ c.if-not-is_ascii_digit.false in
    record {
      digits = digits_more c.args.text.now c.loop-b.b-index c.loop-b-test.true c.loop-b.invariant.digits d;
      value = value_more c.args.text.now c.loop-b.b-index c.loop-b.n c.loop-b-test.true d c.loop-b.invariant.value;
      bound = omega arith;
    }
