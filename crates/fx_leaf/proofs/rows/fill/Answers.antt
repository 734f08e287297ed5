use Rattle.std.proofs.Common.{◌<◌, ◌≤◌, ℕ, List, [], length, get_or, slice_get, ap, ◌∙◌, subst, sym, arith}
use Rattle.std.specs.Int.{bit_at}
use Rattle.fx_leaf.specs.Reach.{IsMarked, HoldsBehind, IsVerdict}
use Rattle.fx_leaf.proofs.RowsGrow.{next_right, all_filled, is_there}
use Rattle.fx_leaf.proofs.rows.fill.Goals as goal

pub marks_at-layouts-requires : goal.marks_at-layouts-requires
marks_at-layouts-requires c =
    let t = c.args.tables.now in
    let k = c.loop-process.process-index in
    let P : List ℕ → Type 0 = λ ps. k < length ps → get_or ps k 0 < length t.net.processes in
    let there : get_or c.order-process-items.result.now k 0 < length t.net.processes =
    subst P (sym c.order-process-items.ensures) (is_there t.net _ [] t.order k 0 c.requires.tables.falls)
    c.loop-process-test.true in
    omega (arith, there, c.requires.marks)

pub fill_row-requires-clause-right : goal.fill_row-requires-clause-right
fill_row-requires-clause-right c =
    let t = c.args.tables.now in
    let region = c.args.region.now in
    let marks = c.args.marks.now in
    let rows = c.loop-process.rows in
    let k = c.loop-process.process-index in
    let P : List ℕ → Type 0 = λ ps. k < length ps → (number : ℕ) → IsMarked marks (get_or ps k 0) number
    → HoldsBehind t.net t.numbering (IsVerdict t.net t.numbering region rows) number
    (slice_get t.net.processes (get_or ps k 0)) in
    let right = subst P (sym c.order-process-items.ensures)
    (λ lt. next_right t c.requires.tables region marks c.requires.closed rows k lt c.loop-process.invariant)
    c.loop-process-test.true in
    λ number. λ h. right number (ap (λ m. bit_at m number) (sym c.marks_at-layouts.ensures) ∙ h)

pub returns : goal.returns
returns c =
    let t = c.args.tables.now in
    let k = c.loop-process.process-index in
    let past : length t.order ≤ k = subst (λ (ps : List ℕ). length ps ≤ k) c.order-process-items.ensures
    c.loop-process-test.false in
    all_filled t c.requires.tables c.args.region.now c.args.marks.now c.requires.closed c.loop-process.rows k
    (omega (arith, c.loop-process.auto.rows, c.requires.size)) past c.loop-process.invariant
