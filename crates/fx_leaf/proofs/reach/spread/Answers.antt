use Rattle.std.proofs.Common.{◌≡◌, ◌∙◌, ◌<◌, ◌-◌, ℕ, List, [], length, drop, get_or, ap, subst, sym, arith}
use Rattle.fx_leaf.proofs.MarksAreClosed.{length_spread}
use Rattle.fx_leaf.proofs.RowsGrow.{is_there}
use Rattle.fx_leaf.proofs.reach.spread.Goals as goal

pub mark_from-requires-clause-there : goal.mark_from-requires-clause-there
mark_from-requires-clause-there c =
    let t = c.args.tables.now in
    let order = c.order-order.result.now in
    let k = c.loop-index.index - 1 in
    let P : List ℕ → Type 0 = λ ps. k < length ps → get_or ps k 0 < length t.net.processes in
    let within : k < length order = omega (arith, c.loop-index-test.true, c.loop-index.auto.index) in
    let there : get_or order k 0 < length t.net.processes =
    subst P (sym c.order-order.ensures) (is_there t.net _ [] t.order k 0 c.requires.tables.falls) within in
    let size : length c.loop-index.marks ≡ length c.args.marks.now = ap length c.loop-index.invariant
    ∙ length_spread t.net t.numbering (drop c.loop-index.index order) c.args.marks.now in
    omega (arith, there, size, c.requires.size)
