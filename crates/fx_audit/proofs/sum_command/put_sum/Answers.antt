-- The text is that of the sum with its keys in order.
use Rattle.std.proofs.Common.{refl}
use Rattle.fx_sums.specs.SumText.{noted_text}
use Rattle.fx_audit.specs.Sums.{IsTextOfSum}
use Rattle.fx_audit.proofs.sum_command.put_sum.Goals as goal

pub returns-clause-ok : goal.returns-clause-ok
returns-clause-ok g c =
    let sorted = c.sort.new.self in
    let text_is : IsTextOfSum c.args.sum.now (noted_text sorted) = record {
      sorted = sorted;
      entries = c.in_ok-sort.ensures.same;
      ascending = c.in_ok-sort.ensures.sorted;
      rest = c.in_ok-sort.ensures.rest;
      text_is = refl;
    } in
    (refl, (noted_text sorted, text_is, c.in_ok-put_text.ensures.ok))
