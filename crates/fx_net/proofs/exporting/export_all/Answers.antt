use Rattle.std.proofs.Common.{◌∙◌, sym, ap, List, ℕ, drop, get_or, ◌+◌}
use Rattle.std.proofs.lemmas.List.{drop_all, drop_more}
use Rattle.fx_link.specs.Ongoing.{Ongoing}
use Rattle.fx_runs.specs.Destinations.{links_used, used_at}
use Rattle.fx_net.specs.Exporting.{put_each}
use Rattle.fx_net.proofs.ChangedLists.{put_each_more}
use Rattle.fx_net.proofs.exporting.export_all.Goals as goal

pub loop-exporter-preserved : goal.loop-exporter-preserved
loop-exporter-preserved c =
    let t = c.args.time in
    let r = c.args.flow.now in
    let net = c.args.net.now in
    let chosen = c.args.chosen.now in
    let ps = c.args.exporters.now in
    let n = c.loop-exporter.exporter-index in
    let links = c.loop-exporter.links.items in
    ap (λ (os : List Ongoing). put_each t r (links_used net chosen (drop (n + 1) ps)) os) c.in_ok-export_at.ensures.ok
    ∙ put_each_more t r (used_at net chosen (get_or ps n 0)) (links_used net chosen (drop (n + 1) ps)) links
    ∙ ap (λ (xs : List ℕ). put_each t r (links_used net chosen xs) links)
    (sym (drop_more ps n 0 c.loop-exporter-test.true)) ∙ c.loop-exporter.invariant

pub returns-clause-ok : goal.returns-clause-ok
returns-clause-ok c =
    let links = c.loop-exporter.links.items in
    sym (ap (λ (xs : List ℕ). put_each c.args.time c.args.flow.now (links_used c.args.net.now c.args.chosen.now xs)
    links) (drop_all c.loop-exporter.exporter-index c.args.exporters.now c.loop-exporter-test.false))
    ∙ c.loop-exporter.invariant
