use Rattle.std.proofs.Common.{◌≡◌, ℕ, ◌+◌, ◌∷◌, ◌∙◌, sym, ap, drop, List, map}
use Rattle.std.proofs.lemmas.List.{drop_all, drop_more}
use Rattle.fx_tables.specs.Network.{AggregationEntry}
use Rattle.fx_net.specs.Doings.{Doing, Ended, Empties}
use Rattle.fx_net.proofs.OneAfterAnother.{completes_next, completed_by}
use Rattle.fx_net.proofs.contents.Contents.empty_aggregations.Goals as goal

holders : List AggregationEntry → List ℕ
holders aggregations = map (λ (a : AggregationEntry). a.holder) aggregations

pub loop-aggregation-preserved : goal.loop-aggregation-preserved
unfolding holders
loop-aggregation-preserved g c =
    let empties : ℕ → Doing = λ place. Ended (Empties c.args.net.now place) in
    let all = c.args.aggregations.now in
    let n = c.loop-aggregation.aggregation-index in
    let rest = holders (drop (n + 1) all) in
    let is : holders (drop n all) ≡ c.holder.result ∷ rest =
    ap holders (drop_more all n c.aggregation-item.result c.loop-aggregation-test.true)
    ∙ ap (λ (a : AggregationEntry). a.holder ∷ rest) (sym c.aggregation-item.is)
    ∙ ap (λ (k : ℕ). k ∷ rest) (sym c.holder.ensures) in
    record {
      done = completes_next empties (holders all) (g.L.Links.put_on c.args.links.now) c.args.self.now
          (holders (drop n all)) c.holder.result rest (g.L.Links.put_on c.loop-aggregation.links)
          c.loop-aggregation.self (g.L.Links.put_on c.empty_out.new.links) c.empty_out.new.self
          is c.loop-aggregation.invariant.done c.in_ok-empty_out.ensures.ok;
      going = λ h. c.in_ok-empty_out.ensures.going (c.loop-aggregation.invariant.going h);
    }

pub returns-clause-ok : goal.returns-clause-ok
unfolding holders
returns-clause-ok g c =
    completed_by (λ place. Ended (Empties c.args.net.now place)) (holders c.args.aggregations.now) _
    (g.L.Links.put_on c.args.links.now) c.args.self.now (g.L.Links.put_on c.loop-aggregation.links)
    c.loop-aggregation.self
    (ap holders (drop_all c.loop-aggregation.aggregation-index c.args.aggregations.now c.loop-aggregation-test.false))
    c.loop-aggregation.invariant.done
