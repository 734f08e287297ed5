use Rattle.std.proofs.Common.{◌∙◌, ap, ◌∷◌, [], get_or, length, arith}
use Rattle.fx_steps.specs.Waiting.{total}
use Rattle.fx_steps.proofs.WaitingCounts.{next_holder, next_link, holders_length, links_length, holders_total, links_total}
use Rattle.fx_steps.proofs.waiting.Waiting.add_all.Goals as goal

pub loop-one-preserved : goal.loop-one-preserved
loop-one-preserved c =
    let i = c.loop-one.invariant in
    let k = c.loop-one.one-index in
    let xs = c.args.pending.now in
    let old = c.loop-one.self in
    let lt = c.loop-one-test.true in
    let one = get_or xs k _ ∷ [] in (
      next_holder k xs _ old.held.items c.add.new.self.held.items _ lt c.add.ensures.held i.0,
      next_link k xs _ old.carried.items c.add.new.self.carried.items _ lt c.add.ensures.carried i.1,
      ap length c.add.ensures.held ∙ holders_length old.held.items one ∙ i.2,
      ap length c.add.ensures.carried ∙ links_length old.carried.items one ∙ i.3,
      omega (arith, ap total c.add.ensures.held, holders_total old.held.items one, i.4),
      omega (arith, ap total c.add.ensures.carried, links_total old.carried.items one, i.5),
    )
