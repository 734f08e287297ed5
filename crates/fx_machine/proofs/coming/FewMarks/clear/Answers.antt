-- A mark that is cleared in the array is cleared among those that count.
use Rattle.std.proofs.Common.{◌≡◌, ◌-◌, ◌∙◌, suc, List, Bool, false, ap, sym, arith}
use Rattle.std.proofs.Math.ListN.{set}
use Rattle.std.proofs.Math.Seq.{take-set-lt}
use Rattle.fx_machine.specs.States.{with_entry}
use Rattle.fx_machine.proofs.coming.FewMarks.clear.Goals as goal

pub returns : goal.returns
returns c =
    let i = c.args.crossing - 1 in
    let next : c.args.crossing ≡ suc i = omega (arith, c.if-crossing-eq0.false) in
    take-set-lt c.self.inside.count c.self.inside.marks i false
    (omega (arith, c.if-crossing-eq0.false, c.if-crossing-self.false))
    ∙ ap (λ (bs : List Bool). set bs i false) c.self.view_is
    ∙ sym (ap (λ n. with_entry c.args.self.now n false) next)
