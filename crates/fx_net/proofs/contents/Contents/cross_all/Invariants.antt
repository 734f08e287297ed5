-- What the rest of the path makes of the contents so far is what all of it makes of those at the beginning.
use Rattle.std.proofs.Common.{◌≡◌, drop}
use Rattle.fx_net.specs.Metering.{after_path}
use Rattle.fx_net.proofs.contents.Contents.cross_all.Given as goal

abbrev pub invariant-loop-crossing : goal.invariant-loop-crossing
invariant-loop-crossing l =
    after_path l.net l.fields l.counts (drop l.crossing-index l.path) l.self
    ≡ after_path l.net l.fields l.counts l.path l.fn.self
