-- What completes the rest completes the whole.
use Rattle.std.proofs.Common.{◌≡◌, drop, false}
use Rattle.fx_net.specs.Doings.{Ended, Empties}
use Rattle.fx_net.proofs.OneAfterAnother.{Completes}
use Rattle.fx_net.proofs.contents.Contents.empty_all.Given as goal

abbrev pub invariant-loop-index : goal.invariant-loop-index
invariant-loop-index g l = record {
  done : Completes (λ index. Ended (Empties l.net index)) l.places (g.L.Links.put_on l.initial.links) l.fn.self
      (drop l.index-index l.places) (g.L.Links.put_on l.links) l.self;
  going : g.L.Links.failed l.initial.links ≡ false → g.L.Links.failed l.links ≡ false;
}
