use Rattle.std.proofs.Common.{List, Some, None, refl, subst, inl, string_bytes}
use Rattle.fx_cli.specs.OptionFlag.{IsFlagPlace}
use Rattle.fx_cli.proofs.Options.{found}
use Rattle.fx_cli.proofs.option_flag.take_option.Goals as goal

pub returns-in-Some : goal.returns-in-Some
returns-in-Some c =
    found c.args.flag.now c.args.value.now string_bytes c.in-Some.index c.args.arguments.now.items
    c.take_both.new.arguments.items c.take_both.result
    (subst (λ (arguments : List _). IsFlagPlace c.args.flag.now string_bytes arguments (Some c.in-Some.index))
    c.as_slice.ensures.value c.in-Some.ensures.place) c.take_both.ensures

pub returns-in-None : goal.returns-in-None
returns-in-None c = inl (
  subst (λ (arguments : List _). IsFlagPlace c.args.flag.now string_bytes arguments None)
      c.as_slice.ensures.value c.in-None.ensures.place,
  refl,
)
