use Rattle.std.proofs.Common.{◌∷◌, [], ◌++◌, List, ℕ, ap, get_or, sym, ◌∙◌}
use Rattle.std.proofs.lemmas.List.{take_all, take_more}
use Rattle.fx_layout.proofs.key.copy_values.Goals as goal

pub loop-value-init : goal.loop-value-init
loop-value-init c = c.clear.ensures

pub loop-value-preserved : goal.loop-value-preserved
loop-value-preserved c =
    let k = c.loop-value.value-index in
    c.push.ensures.items ∙ ap (λ (xs : List ℕ). xs ++ get_or c.args.values.now k 0 ∷ []) c.loop-value.invariant
    ∙ sym (take_more c.args.values.now k 0 c.loop-value-test.true)

pub returns : goal.returns
returns c = c.loop-value.invariant ∙ take_all c.loop-value.value-index c.args.values.now c.loop-value-test.false
