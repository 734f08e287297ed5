use Rattle.std.proofs.Common.{rules}
use Rattle.fx_base.proofs.Writing.{writes_both, part_next}
use Rattle.fx_base.proofs.put.put_text.Goals as goal

pub loop-done-preserved : goal.loop-done-preserved
loop-done-preserved g c =
    record {
      within = search rules;
      taken = writes_both _ _ _ _ _ _ c.loop-done.invariant.taken c.in_ok-done.ensures.octets
          (part_next c.args.text.now c.loop-done.done c.in_ok-done.field-0 (search rules));
      going = λ _. c.in_ok-done.ensures.ok;
    }
