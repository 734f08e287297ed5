-- The links before the place have put out what waited on them, and the others are as they were.
use Rattle.std.proofs.Common.{◌≡◌, take, false}
use Rattle.fx_link.specs.Ongoing.{after_finish}
use Rattle.fx_net.specs.Finishing.{PutsAll}
use Rattle.fx_net.proofs.ChangedLists.{mapped}
use Rattle.fx_net.proofs.finishing.finish_all.Given as goal

abbrev pub invariant-loop-index : goal.invariant-loop-index
invariant-loop-index g l = record {
  lines : l.lines.items ≡ mapped (after_finish l.time) l.index l.initial.lines.items;
  put : PutsAll (g.L.Links.put_on l.initial.links) (g.L.Links.put_on l.links) l.time
      (take l.index l.initial.lines.items);
  going : g.L.Links.failed l.initial.links ≡ false → g.L.Links.failed l.links ≡ false;
}
