use Rattle.std.proofs.Common.{◌<◌, get_or, length, arith, List, [], ℕ, subst, sym}
use Rattle.fx_steps.proofs.RowsGrow.{is_there}
use Rattle.fx_steps.proofs.rows.fill.Goals as goal

pub set_row-requires : goal.set_row-requires
set_row-requires c =
    let order = c.order-process-items.result.now in
    let k = c.loop-process.process-index in
    let net = c.args.tables.now.net in
    let P : List ℕ → Type 0 = λ ps. k < length ps → get_or ps k 0 < length net.processes in
    let there : get_or order k 0 < length net.processes =
    subst P (sym c.order-process-items.ensures)
    (is_there net _ [] c.args.tables.now.order k 0 c.requires.tables.falls) c.loop-process-test.true in
    omega (arith, there, c.requires.room)
