-- What the rest of the records makes of the contents so far is what all make of those at the beginning.
use Rattle.std.proofs.Common.{◌≡◌, drop}
use Rattle.fx_net.specs.Leaving.{after_leaves}
use Rattle.fx_net.proofs.contents.Contents.leave_all.Given as goal

abbrev pub invariant-loop-leaver : goal.invariant-loop-leaver
invariant-loop-leaver l = after_leaves l.net (drop l.leaver-index l.leavers) l.self
    ≡ after_leaves l.net l.leavers l.fn.self
