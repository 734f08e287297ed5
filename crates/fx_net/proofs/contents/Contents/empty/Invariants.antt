-- The expiries that are left make of the contents so far what all make of those at the beginning.
use Rattle.std.proofs.Common.{◌≡◌, ◌-◌}
use Rattle.fx_net.specs.Leaving.{after_leasts}
use Rattle.fx_net.proofs.contents.Contents.empty.Given as goal

abbrev pub invariant-loop-done : goal.invariant-loop-done
invariant-loop-done l = after_leasts l.net l.index (l.count - l._done) l.self
    ≡ after_leasts l.net l.index l.count l.fn.self
