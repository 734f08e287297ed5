use Rattle.std.proofs.Common.{Some, None, refl, sym, ◌∙◌, arith}
use Rattle.fx_elements.specs.Groups.{hex_of}
use Rattle.fx_elements.proofs.HexDigits.{group_digits, leading_zero, no_digits, one_digit, two_digits, three_digits, four_digits, many_digits, wider}
use Rattle.fx_elements.proofs.groups.read_group.Goals as goal

pub returns-then-has_leading_zero : goal.returns-then-has_leading_zero
returns-then-has_leading_zero c = record {
  value =
      sym (leading_zero c.args.text.now (sym c.if-has_leading_zero.ensures));
  bound = tt;
}

pub returns-in_default : goal.returns-in_default
returns-in_default c = record {
  value = sym (group_digits c.args.text.now (sym c.if-has_leading_zero.ensures)
      ∙ no_digits hex_of c.args.text.now c.in_default.len_below);
  bound = tt;
}

pub returns-in-len1 : goal.returns-in-len1
returns-in-len1 c = record {
  value = c.read_hex.ensures.value ∙ sym (group_digits c.args.text.now (sym c.if-has_leading_zero.ensures)
      ∙ one_digit hex_of c.args.text.now c.in-len1.len_at_least c.in-len1.len_below);
  bound = wider c.read_hex.result 16 65536 c.read_hex.ensures.bound (omega arith);
}

pub returns-in-len2 : goal.returns-in-len2
returns-in-len2 c = record {
  value = c.read_pair.ensures.value ∙ sym (group_digits c.args.text.now (sym c.if-has_leading_zero.ensures)
      ∙ two_digits hex_of c.args.text.now c.in-len2.len_at_least c.in-len2.len_below);
  bound = wider c.read_pair.result 256 65536 c.read_pair.ensures.bound (omega arith);
}

pub returns-in_err-read_pair-in-len3 : goal.returns-in_err-read_pair-in-len3
returns-in_err-read_pair-in-len3 c = record {
  value = c.from_residual.ensures ∙ sym (group_digits c.args.text.now (sym c.if-has_leading_zero.ensures)
      ∙ three_digits hex_of c.args.text.now None _ c.in-len3.len_at_least c.in-len3.len_below
      c.in_err-read_pair-in-len3.ensures.value refl);
  bound = rw c.from_residual.ensures tt;
}

pub returns-in_err-read_hex-in-len3 : goal.returns-in_err-read_hex-in-len3
returns-in_err-read_hex-in-len3 c = record {
  value = c.from_residual-in_err-read_hex-in-len3.ensures
      ∙ sym (group_digits c.args.text.now (sym c.if-has_leading_zero.ensures)
      ∙ three_digits hex_of c.args.text.now (Some c.in_ok-read_pair-in-len3.field-0) None c.in-len3.len_at_least
      c.in-len3.len_below c.in_ok-read_pair-in-len3.ensures.value c.in_err-read_hex-in-len3.ensures.value);
  bound = rw c.from_residual-in_err-read_hex-in-len3.ensures tt;
}

pub returns-in_ok-read_hex-in-len3 : goal.returns-in_ok-read_hex-in-len3
returns-in_ok-read_hex-in-len3 c = record {
  value = sym (group_digits c.args.text.now (sym c.if-has_leading_zero.ensures)
      ∙ three_digits hex_of c.args.text.now (Some c.in_ok-read_pair-in-len3.field-0)
      (Some c.in_ok-read_hex-in-len3.field-0) c.in-len3.len_at_least c.in-len3.len_below
      c.in_ok-read_pair-in-len3.ensures.value c.in_ok-read_hex-in-len3.ensures.value);
  bound = omega (arith, c.in_ok-read_pair-in-len3.ensures.bound, c.in_ok-read_hex-in-len3.ensures.bound);
}

pub returns-in_err-read_pair-in-len4 : goal.returns-in_err-read_pair-in-len4
returns-in_err-read_pair-in-len4 c = record {
  value = c.from_residual-in_err-read_pair-in-len4.ensures
      ∙ sym (group_digits c.args.text.now (sym c.if-has_leading_zero.ensures)
      ∙ four_digits hex_of c.args.text.now None _ c.in-len4.len_at_least c.in-len4.len_below
      c.in_err-read_pair-in-len4.ensures.value refl);
  bound = rw c.from_residual-in_err-read_pair-in-len4.ensures tt;
}

pub returns-in_err-read_pair-in-len4-2 : goal.returns-in_err-read_pair-in-len4-2
returns-in_err-read_pair-in-len4-2 c = record {
  value = c.from_residual-in_err-read_pair-in-len4-2.ensures
      ∙ sym (group_digits c.args.text.now (sym c.if-has_leading_zero.ensures)
      ∙ four_digits hex_of c.args.text.now (Some c.in_ok-read_pair-in-len4.field-0) None c.in-len4.len_at_least
      c.in-len4.len_below c.in_ok-read_pair-in-len4.ensures.value c.in_err-read_pair-in-len4-2.ensures.value);
  bound = rw c.from_residual-in_err-read_pair-in-len4-2.ensures tt;
}

pub returns-in_ok-read_pair-in-len4-2 : goal.returns-in_ok-read_pair-in-len4-2
returns-in_ok-read_pair-in-len4-2 c = record {
  value = sym (group_digits c.args.text.now (sym c.if-has_leading_zero.ensures)
      ∙ four_digits hex_of c.args.text.now (Some c.in_ok-read_pair-in-len4.field-0)
      (Some c.in_ok-read_pair-in-len4-2.field-0) c.in-len4.len_at_least c.in-len4.len_below
      c.in_ok-read_pair-in-len4.ensures.value c.in_ok-read_pair-in-len4-2.ensures.value);
  bound = omega (arith, c.in_ok-read_pair-in-len4.ensures.bound, c.in_ok-read_pair-in-len4-2.ensures.bound);
}

pub returns-in_default-2 : goal.returns-in_default-2
returns-in_default-2 c = record {
  value = sym (group_digits c.args.text.now (sym c.if-has_leading_zero.ensures)
      ∙ many_digits hex_of c.args.text.now c.in_default.len_at_least);
  bound = tt;
}
