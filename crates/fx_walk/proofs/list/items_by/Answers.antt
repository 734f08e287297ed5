use Rattle.std.proofs.Common.{arith, length, refl}
use Rattle.std.proofs.lemmas.Bool.{lt-ltb, le-ltb}
use Rattle.fx_walk.proofs.Lists.{items_in-Array, length-views}
use Rattle.fx_walk.proofs.list.items_by.Goals as goal

pub returns-then-len-most : goal.returns-then-len-most
returns-then-len-most c faults =
    rw (c.in-Array.is, items_in-Array, length-views, lt-ltb c.args.most (length c.in-Array.items.items) (omega arith))
    c.refusal-then-len-most.ensures

pub returns-then-len-least : goal.returns-then-len-least
returns-then-len-least c faults =
    rw (
      c.in-Array.is,
      items_in-Array,
      length-views,
      le-ltb c.args.most (length c.in-Array.items.items) (omega arith),
      lt-ltb (length c.in-Array.items.items) c.args.least (omega arith),
    ) c.refusal-then-len-least.ensures

pub returns : goal.returns
returns c =
    rw (
      c.as_slice.ensures.value,
      c.in-Array.is,
      items_in-Array,
      length-views,
      le-ltb c.args.most
          (length c.in-Array.items.items) (omega arith),
      le-ltb (length c.in-Array.items.items) c.args.least
          (omega arith),
    ) (λ faults. refl, refl)
