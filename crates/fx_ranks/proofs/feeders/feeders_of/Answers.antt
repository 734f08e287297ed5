use Rattle.fx_ranks.specs.Feeding.{feeds}
use Rattle.fx_ranks.proofs.Ranges.{ranged_more}
use Rattle.fx_ranks.proofs.feeders.feeders_of.Goals as goal

pub loop-from-preserved : goal.loop-from-preserved
loop-from-preserved c = ranged_more (λ from. feeds c.args.linked.now from c.args.process) c.loop-from.from _ _ _
    c.loop-from.invariant c.feeds.ensures c.in_ok-push.ensures.items
