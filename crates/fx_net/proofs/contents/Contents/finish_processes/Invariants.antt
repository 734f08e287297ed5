-- What completes the rest completes the whole.
use Rattle.std.proofs.Common.{◌≡◌, drop, false}
use Rattle.fx_net.specs.Doings.{Finishes}
use Rattle.fx_net.proofs.OneAfterAnother.{Completes}
use Rattle.fx_net.proofs.contents.Contents.finish_processes.Given as goal

abbrev pub invariant-loop-process : goal.invariant-loop-process
invariant-loop-process g l = record {
  done : Completes (Finishes l.net) l.ranked (g.L.Links.put_on l.initial.links) l.fn.self
      (drop l.process-index l.ranked) (g.L.Links.put_on l.links) l.self;
  going : g.L.Links.failed l.initial.links ≡ false → g.L.Links.failed l.links ≡ false;
}
