use Rattle.fx_leaf.proofs.PathSelectionsGrow.{watching_length, unwatched_length}
use Rattle.fx_leaf.proofs.path_selections.count_at.Goals as goal

pub returns-then-watches : goal.returns-then-watches
returns-then-watches c = λ number n. rw c.selections.ensures
    (watching_length number n c.args.crossing.now c.args.point.now c.watches.result c.watches.ensures c.if-watches.true)

pub returns-else-watches : goal.returns-else-watches
returns-else-watches c = λ number n. unwatched_length number n c.args.crossing.now c.args.point.now c.watches.result
    c.watches.ensures c.if-watches.false
