use Rattle.std.proofs.Common.{arith, rules}
use Rattle.std.proofs.Common.{◌≡◌, ◌∙◌, ◌+◌, ◌≤◌, sym, subst, List, length}
use Rattle.std.proofs.lemmas.Nat.Bits.{shr_and_one}
use Rattle.std.specs.Int.{bit_at}
use Rattle.fx_layout.specs.Keys.{Layout}
use Rattle.fx_leaf.specs.Tables.{Table}
use Rattle.fx_leaf.proofs.RowsGrow.{RowFilled, row_passed, row_set, row_done, layout_at}
use Rattle.fx_leaf.proofs.rows.fill_row.Goals as goal
use Rattle.fx_leaf.proofs.rows.fill_row.Goals.{then-layouts-number-eq1, else-layouts-number-eq1}

pub loop-number-preserved : goal.loop-number-preserved
loop-number-preserved c =
    let t = c.args.tables.now in
    let region = c.args.region.now in
    let layouts = c.args.layouts in
    let process = c.args.process in
    let old = c.args.rows.now in
    let now = c.loop-number.rows in
    let k = c.loop-number.number in
    let So = λ (rows : Table). RowFilled t region layouts process old rows (k + 1) in
    elim c.if-layouts-number-eq1.branch [
      | then-layouts-number-eq1 w ↦ let bit : bit_at layouts k ≡ 1 = sym (shr_and_one layouts k)
          ∙ w.if-layouts-number-eq1.true in let here =
          layout_at c.layouts-every.result.now t.numbering.layouts k w.index-every-number.result c.layouts-every.ensures
          c.loop-number-test.true w.index-every-number.is in
          subst So (sym w.rows-is) (row_set t region layouts process old c.requires.tables c.requires.size
          c.requires.right now w.set_entry.new.rows k w.index-every-number.result w.entry_from-verdict.result
          c.loop-number.auto.rows bit here w.entry_from-verdict.ensures w.set_entry.ensures.set
          w.set_entry.ensures.others c.loop-number.invariant)
      | else-layouts-number-eq1 w ↦ subst So (sym w.rows-is)
          (row_passed t region layouts process old now k
          (λ h. w.if-layouts-number-eq1.false (shr_and_one layouts k ∙ h)) c.loop-number.invariant)
    ]

pub returns-clause-filled : goal.returns-clause-filled
returns-clause-filled c =
    let t = c.args.tables.now in
    let k = c.loop-number.number in
    let past : length t.numbering.layouts ≤ k =
    subst (λ (ls : List Layout). length ls ≤ k) c.layouts-every.ensures c.loop-number-test.false in
    row_done t c.args.region.now c.args.layouts c.args.process c.args.rows.now c.loop-number.rows k past
    c.loop-number.invariant

pub loop-number-init : goal.loop-number-init
loop-number-init c = first_of (grind arith, search rules)
