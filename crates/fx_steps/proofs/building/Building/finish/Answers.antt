use Rattle.std.proofs.Common.{◌∷◌, [], List, length, length-append, sym, subst, ap, arith}
use Rattle.fx_steps.specs.declared.pending.Pending.{Pending}
use Rattle.fx_steps.specs.Planning.{total_cost}
use Rattle.fx_steps.specs.UnderWay.{CanLeave, UnderWay}
use Rattle.fx_steps.proofs.RunGoesOn.{goes_on}
use Rattle.fx_steps.proofs.RecordsBehind.{top}
use Rattle.fx_steps.proofs.building.Building.finish.Goals as goal

pub loop-top-smaller : goal.loop-top-smaller
loop-top-smaller c =
    let t = c.args.costs.now.tables in
    let rows = c.args.costs.now.table in
    let old = c.loop-top.self in
    let xs = c.pop.new.self.items in
    let x = c.in-Some.top in
    let can = subst (λ (ys : List Pending). CanLeave rows t.net t.numbering (length old.steps.items) ys old.waiting)
    c.in-Some.ensures.items c.loop-top.invariant.0 in
    let so = top t c.requires.prepared.tables c.requires.prepared.runnable c.args.costs.now.packet.fields rows
    c.requires.prepared.filled (length old.steps.items) xs x old.waiting can in
    omega (
      arith,
      ap (total_cost rows t.net t.numbering) c.in_ok-advance.ensures.pending,
      ap (total_cost rows t.net t.numbering) c.in-Some.ensures.items,
      so.same,
    )

pub loop-top-preserved : goal.loop-top-preserved
loop-top-preserved c =
    let t = c.args.costs.now.tables in
    let net = t.net in
    let n = t.numbering in
    let p = c.args.costs.now.packet in
    let rows = c.args.costs.now.table in
    let old = c.loop-top.self in
    let new = c.advance.new.self in
    let xs = c.pop.new.self.items in
    let x = c.in-Some.top in
    let inv = c.loop-top.invariant in
    let can = subst (λ (ys : List Pending). CanLeave rows net n (length old.steps.items) ys old.waiting)
    c.in-Some.ensures.items inv.0 in
    let so = top t c.requires.prepared.tables c.requires.prepared.runnable p.fields rows c.requires.prepared.filled
    (length old.steps.items) xs x old.waiting can in
    let left = c.in_ok-advance.ensures.left in
    let pending = c.in_ok-advance.ensures.pending in (
      c.in_ok-advance.ensures.leaves,
      omega (
        arith,
        ap length left.last,
        length-append old.steps.items (left.step ∷ []),
        ap (total_cost rows net n)
            pending,
        ap (total_cost rows net n) c.in-Some.ensures.items,
        so.same,
        inv.1,
      ),
      λ classes coming f way.
          let before = subst (λ (ys : List Pending). UnderWay net n classes p coming f old.steps.items ys)
          c.in-Some.ensures.items (inv.2 classes coming f way) in
          let on = goes_on net n p rows classes c.requires.prepared.tables.network xs x old.steps.items new.steps.items
          coming f so.is so.steps_so left before in
          subst (λ (ys : List Pending). UnderWay net n classes p coming f new.steps.items ys) (sym pending) on,
    )
