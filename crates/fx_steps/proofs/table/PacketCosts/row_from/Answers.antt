use Rattle.std.proofs.Common.{◌≡◌, ◌∙◌, ap, length, take, arith, length-take}
use Rattle.fx_layout.specs.Keys.{Layout}
use Rattle.std.proofs.Common.{List}
use Rattle.fx_steps.proofs.RowsGrow.{row_length, next_entry}
use Rattle.fx_steps.proofs.table.PacketCosts.row_from.Goals as goal

pub push-requires : goal.push-requires
push-requires c =
    let layouts = c.layouts-layouts.result.now in
    let k = c.loop-number.number in
    let size : length c.loop-number.row ≡ length (take k layouts) = ap length c.loop-number.invariant
    ∙ row_length c.args.self.now.table c.args.self.now.tables.net c.args.self.now.tables.numbering
    c.args.self.now.packet.fields c.args.process 0 (take k layouts) in
    let same : length layouts ≡ length c.args.self.now.tables.numbering.layouts =
    ap (λ (ls : List Layout). length ls) c.layouts-layouts.ensures in
    omega (arith, size, same, c.requires.few, c.loop-number-test.true, length-take {A = Layout})

pub loop-number-preserved : goal.loop-number-preserved
loop-number-preserved c =
    next_entry c.args.self.now.table c.args.self.now.tables.net c.args.self.now.tables.numbering
    c.args.self.now.packet.fields c.args.process c.loop-number.number c.layouts-layouts.result.now
    c.index-layouts-number.result c.loop-number.row c.push.new.self c.entry_from.result c.loop-number-test.true
    c.index-layouts-number.is c.loop-number.invariant c.entry_from.ensures c.push.ensures
