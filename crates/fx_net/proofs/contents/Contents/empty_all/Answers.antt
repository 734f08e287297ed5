use Rattle.std.proofs.Common.{ℕ, ◌+◌, drop, get_or}
use Rattle.std.proofs.lemmas.List.{drop_all, drop_more}
use Rattle.fx_net.specs.Doings.{Doing, Ended, Empties}
use Rattle.fx_net.proofs.OneAfterAnother.{completes_next, completed_by}
use Rattle.fx_net.proofs.contents.Contents.empty_all.Goals as goal

pub loop-index-preserved : goal.loop-index-preserved
loop-index-preserved g c =
    let empties : ℕ → Doing = λ index. Ended (Empties c.args.net.now index) in
    let places = c.args.places.now in
    let n = c.loop-index.index-index in
    record {
      done = completes_next empties places (g.L.Links.put_on c.args.links.now) c.args.self.now (drop n places)
          (get_or places n 0) (drop (n + 1) places) (g.L.Links.put_on c.loop-index.links) c.loop-index.self
          (g.L.Links.put_on c.empty_out.new.links) c.empty_out.new.self
          (drop_more places n 0 c.loop-index-test.true) c.loop-index.invariant.done c.in_ok-empty_out.ensures.ok;
      going = λ h. c.in_ok-empty_out.ensures.going (c.loop-index.invariant.going h);
    }

pub returns-clause-ok : goal.returns-clause-ok
returns-clause-ok g c =
    completed_by (λ index. Ended (Empties c.args.net.now index)) c.args.places.now _ (g.L.Links.put_on c.args.links.now)
    c.args.self.now (g.L.Links.put_on c.loop-index.links) c.loop-index.self
    (drop_all c.loop-index.index-index c.args.places.now c.loop-index-test.false) c.loop-index.invariant.done
