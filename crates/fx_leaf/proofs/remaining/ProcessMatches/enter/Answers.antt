use Rattle.fx_leaf.proofs.RemainingMatches.{remain_still}
use Rattle.fx_leaf.proofs.remaining.ProcessMatches.enter.Goals as goal

pub put-requires : goal.put-requires
put-requires c = λ fits. remain_still c.args.region.now c.self.inside.all.now c.remaining.result
    c.list_within-fits.new.listed.items c.remaining.ensures.remain (c.list_within-fits.ensures fits)
