use Rattle.std.proofs.Common.{◌+◌, drop, get_or}
use Rattle.std.proofs.lemmas.List.{drop_all, drop_more}
use Rattle.fx_net.specs.Doings.{Finishes}
use Rattle.fx_net.proofs.OneAfterAnother.{completes_next, completed_by}
use Rattle.fx_net.proofs.contents.Contents.finish_processes.Goals as goal

pub loop-process-preserved : goal.loop-process-preserved
loop-process-preserved g c =
    let ranked = c.args.ranked.now in
    let n = c.loop-process.process-index in
    record {
      done = completes_next (Finishes c.args.net.now) ranked (g.L.Links.put_on c.args.links.now) c.args.self.now
          (drop n ranked) (get_or ranked n 0) (drop (n + 1) ranked) (g.L.Links.put_on c.loop-process.links)
          c.loop-process.self (g.L.Links.put_on c.finish_process.new.links) c.finish_process.new.self
          (drop_more ranked n 0 c.loop-process-test.true) c.loop-process.invariant.done
          c.in_ok-finish_process.ensures.ok;
      going = λ h. c.in_ok-finish_process.ensures.going (c.loop-process.invariant.going h);
    }

pub returns-clause-ok : goal.returns-clause-ok
returns-clause-ok g c =
    completed_by (Finishes c.args.net.now) c.args.ranked.now _ (g.L.Links.put_on c.args.links.now) c.args.self.now
    (g.L.Links.put_on c.loop-process.links) c.loop-process.self
    (drop_all c.loop-process.process-index c.args.ranked.now c.loop-process-test.false) c.loop-process.invariant.done
