use Rattle.std.proofs.Common.{ℕ, sym, refl}
use Rattle.fx_net.proofs.ChangedLists.{changed_past, changed_set}
use Rattle.fx_net.proofs.obeying.choose.Goals as goal

pub returns-in_default : goal.returns-in_default
returns-in_default c = sym (changed_past _ _ _ c.in_default.ensures.item.3)

pub returns-in-Some : goal.returns-in-Some
returns-in-Some c =
    changed_set (λ (_ : ℕ). c.args.destination) c.args.chosen.now.items c.args.index c.in-Some.number.now _
    c.in-Some.ensures.item.3.0 refl
