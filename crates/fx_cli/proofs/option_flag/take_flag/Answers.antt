use Rattle.std.proofs.Common.{List, Some, None, refl, subst, string_bytes}
use Rattle.fx_cli.specs.OptionFlag.{IsFlagPlace}
use Rattle.fx_cli.proofs.option_flag.take_flag.Goals as goal

pub returns-in-Some : goal.returns-in-Some
returns-in-Some c = (
  c.in-Some.index,
  subst (λ (arguments : List _). IsFlagPlace c.args.flag.now string_bytes arguments
      (Some c.in-Some.index)) c.as_slice.ensures.value c.in-Some.ensures.place,
  c.remove.ensures.by_index.2,
)

pub returns-in-None : goal.returns-in-None
returns-in-None c = (
  subst (λ (arguments : List _). IsFlagPlace c.args.flag.now string_bytes arguments None)
      c.as_slice.ensures.value c.in-None.ensures.place,
  refl,
)
