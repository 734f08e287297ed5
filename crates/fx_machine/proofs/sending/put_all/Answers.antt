use Rattle.std.proofs.Common.{◌∙◌, ℕ, ap, List, get_or}
use Rattle.std.proofs.lemmas.List.{take_all}
use Rattle.fx_tables.specs.declared.record.Record.{Record}
use Rattle.fx_machine.specs.Sends.{put_all}
use Rattle.fx_machine.specs.States.{put_last}
use Rattle.fx_machine.proofs.Lists.{put_all_more}
use Rattle.fx_machine.proofs.sending.put_all.Goals as goal

pub loop-done-preserved : goal.loop-done-preserved
loop-done-preserved c =
    let links = c.args.links.now in
    let n = c.loop-done.done in
    c.in_default.ensures.ok ∙ ap (λ (x : Record). put_last c.loop-done.carried.items (get_or links n 0) x)
    c.copy.ensures ∙ ap (λ (rss : List (List Record)). put_last rss (get_or links n 0) c.args.entry.now)
    c.loop-done.invariant ∙ put_all_more links n c.args.entry.now c.args.carried.now.items 0 c.loop-done-test.true

pub returns-in-Err : goal.returns-in-Err
returns-in-Err c = record {
  ok = tt;
  err = c.take_all_back.ensures c.args.carried.now.items (c.in-Err.ensures.err ∙ c.loop-done.invariant);
}

pub returns : goal.returns
returns c = record {
  ok = c.loop-done.invariant ∙ ap (λ (ls : List ℕ). put_all ls c.args.entry.now c.args.carried.now.items)
      (take_all c.loop-done.done c.args.links.now c.loop-done-test.false);
  err = tt;
}
