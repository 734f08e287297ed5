use Rattle.std.proofs.Common.{arith}
use Rattle.fx_base.proofs.Writing.{writes_both}
use Rattle.fx_wire.proofs.SetWriting.{sets_octets-more, set_length-among}
use Rattle.fx_wire.proofs.put.put_sets.Goals as goal

pub put_set-requires : goal.put_set-requires
put_set-requires g c = grind (arith, set_length-among)

pub loop-set-preserved : goal.loop-set-preserved
loop-set-preserved g c = record {
  taken = writes_both _ _ _ _ _ _ c.loop-set.invariant.taken c.in_ok-put_set.ensures.ok
      (sets_octets-more c.args.sets.now c.loop-set.set-index _ c.loop-set-test.true);
  going = λ e. c.in_ok-put_set.ensures.going (c.loop-set.invariant.going e);
}
