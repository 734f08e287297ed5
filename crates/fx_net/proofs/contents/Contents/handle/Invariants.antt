-- Handling what still waits makes of the contents so far what handling all makes of those at the beginning.
use Rattle.std.proofs.Common.{◌≡◌, length, slice_get}
use Rattle.fx_net.specs.Arriving.{after_handling, waiting_on}
use Rattle.fx_net.proofs.contents.Contents.handle.Given as goal

abbrev pub invariant-loop-flow : goal.invariant-loop-flow
invariant-loop-flow l = after_handling l.net l.link l.self ≡ after_handling l.net l.link l.fn.self

abbrev pub decreases-loop-flow : goal.decreases-loop-flow
decreases-loop-flow l = length (waiting_on (slice_get l.self.links l.link))
