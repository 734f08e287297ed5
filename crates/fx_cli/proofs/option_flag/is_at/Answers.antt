use Rattle.std.proofs.Common.{◌∙◌, ap, length, refl, string_bytes}
use Rattle.std.specs.Str.{bytes_eq}
use Rattle.std.proofs.lemmas.Option.{slice_get_read}
use Rattle.clap.specs.Words.{Text}
use Rattle.fx_cli.proofs.Options.{compared}
use Rattle.fx_cli.proofs.option_flag.is_at.Goals as goal

pub returns-clause-at : goal.returns-clause-at
returns-clause-at c =
    let is = slice_get_read c.args.words.now (length c.args.words.now) c.args.index c.index-words-index.result refl
    c.if-index-words.false c.index-words-index.is in
    compared c.args.text.now string_bytes c.args.words.now c.args.index c.index-words-index.result c.eq.result is
    (c.eq.ensures ∙ ap (λ (word : Text). bytes_eq word c.args.text.now) c.as_str.ensures.value)
