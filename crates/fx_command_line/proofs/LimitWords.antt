-- Texts of limits, as they are read.
use Rattle.std.proofs.Common.{◌≡◌, ℕ, Bool, true, false, refl, arith}
use Rattle.std.specs.Str.Parse.{digits_value, without_leading_plus}
use Rattle.clap.specs.ValueTests.{accepts}
use Rattle.clap.specs.Words.{Text}
use Rattle.clap.specs.declared.builder.value_parser.ValueParser.TheVariants as parsers
use Rattle.clap.proofs.ValueTestLemmas.{Accepts-accepts, accepts-Accepts}
use Rattle.fx_command_line.specs.Words.{IsLimit}

abbrev pub is_limit : Text → Bool
is_limit text = accepts false (parsers.Unsigned 1 1000000) text

pub limit_read : (text : Text) → is_limit text ≡ true → IsLimit text (digits_value 10 (without_leading_plus text))
limit_read text is =
    let a = accepts-Accepts false (parsers.Unsigned 1 1000000) text is in
    (a.0, refl, a.2, a.3)

pub limit_taken : (text : Text) (n : ℕ) → IsLimit text n → is_limit text ≡ true
limit_taken text n is =
    Accepts-accepts false (parsers.Unsigned 1 1000000) text
    (is.0, omega (arith, is.1, is.2, is.3), omega (arith, is.1, is.2), omega (arith, is.1, is.3))
