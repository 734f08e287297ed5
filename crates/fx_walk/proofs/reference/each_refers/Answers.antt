use Rattle.std.proofs.Common.{◌+◌, ap, arith}
use Rattle.fx_walk.specs.Pointer.{pointer}
use Rattle.fx_walk.proofs.Faults.{exit, pointer-Item}
use Rattle.fx_walk.proofs.Items.{fine_so_far, refused_at}
use Rattle.fx_walk.proofs.reference.each_refers.Goals as goal

pub loop-item-preserved : goal.loop-item-preserved
loop-item-preserved g c =
    let i = c.loop-item.invariant in
    let ok = rw pointer-Item at c.in_ok-refers.ensures in
    record {
      index = ap (λ n. n + 1) i.index;
      faults = fine_so_far (g.T.Refers.faults c.args.known.now) (pointer c.args.path.now) c.args.items.now
          c.loop-item.index c.loop-item.item-index c.item-item.result i.index (omega arith) c.item-item.is i.faults
          ok.0;
    }

pub returns-in_err-refers : goal.returns-in_err-refers
returns-in_err-refers g c =
    let i = c.loop-item.invariant in
    exit _ _ _ _ c.from_residual.ensures (refused_at (g.T.Refers.faults c.args.known.now) (pointer c.args.path.now)
    c.args.items.now c.loop-item.index c.loop-item.item-index c.item-item.result _ i.index (omega arith)
    c.item-item.is i.faults (rw pointer-Item at c.in_err-refers.ensures))
