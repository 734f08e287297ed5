use Rattle.std.proofs.Common.{◌≡◌, refl, suc, ◌-◌, sym, ap, ◌∙◌, arith}
use Rattle.fx_base.specs.Entries.{entry_numbered}
use Rattle.fx_base.proofs.entries.entry_numbered.Goals as goal

pub returns-then-number-eq0 : goal.returns-then-number-eq0
returns-then-number-eq0 g c = rw c.if-number-eq0.true refl

pub returns : goal.returns
returns g c =
    let later : c.args.number ≡ suc (c.args.number - 1) = omega (arith, c.if-number-eq0.false) in
    c.entry_at.ensures ∙ sym (ap (entry_numbered c.args.entries.now) later)
