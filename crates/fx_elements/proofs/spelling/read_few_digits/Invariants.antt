use Rattle.std.proofs.Common.{◌≡◌, ◌≤◌, take, true}
use Rattle.std.specs.Str.{all_ascii_digits}
use Rattle.std.specs.Str.Parse.{digits_value}
use Rattle.fx_elements.proofs.spelling.read_few_digits.Given as goal

abbrev pub invariant-loop-b : goal.invariant-loop-b
invariant-loop-b l = record {
  digits : all_ascii_digits (take l.b-index l.text) ≡ true;
  value : l.n ≡ digits_value 10 (take l.b-index l.text);
  bound : l.n ≤ 255;
}
