use Rattle.std.proofs.Common.{ap, ◌∙◌}
use Rattle.fx_tables.specs.Network.{Net}
use Rattle.fx_ranks.specs.Feeding.{feeders}
use Rattle.fx_ranks.proofs.Ranges.{ranged_more, pushed}
use Rattle.fx_ranks.proofs.feeders.all_feeders.Goals as goal

pub loop-process-preserved : goal.loop-process-preserved
loop-process-preserved c = ranged_more (feeders c.args.net.now) c.loop-process.process _ _ _ c.loop-process.invariant
    (c.in_ok-feeders_of.ensures ∙ ap (λ (n : Net). feeders n c.loop-process.process) c.in_ok-linked.ensures)
    (pushed (λ row. row.items) _ _ _ c.in_ok-push.ensures.items)
