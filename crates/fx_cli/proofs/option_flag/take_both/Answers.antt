use Rattle.std.proofs.Common.{◌∙◌, ◌+◌, Bool, List, ap, string_bytes, subst, sym}
use Rattle.std.specs.List.{remove}
use Rattle.fx_cli.specs.OptionFlag.{IsAt, RemovesBoth}
use Rattle.fx_cli.proofs.option_flag.take_both.Goals as goal

pub returns-then-is_value : goal.returns-then-is_value
returns-then-is_value c =
    let old = c.args.arguments.now.items in
    let at = subst (λ (words : List _). IsAt c.args.value.now string_bytes words (c.args.index + 1)
    c.is_at-is_value.result) c.as_slice.ensures.value c.is_at-is_value.ensures.at in
    subst (λ (b : Bool). RemovesBoth c.args.value.now string_bytes c.args.index old
    c.remove-then-is_value.new.self.items b) (sym c.if-is_value.true) (
      subst (λ (b : Bool). IsAt c.args.value.now string_bytes old (c.args.index + 1) b) c.if-is_value.true at,
      c.remove-then-is_value.ensures.items ∙ ap (λ (l : List _). remove l c.args.index) c.remove.ensures.items,
    )
