-- Some lines were obeyed, and the network has answered no fault.
use Rattle.std.proofs.Common.{◌≡◌, None, false}
use Rattle.fx_base.specs.Lines.{line_budget}
use Rattle.fx_net.specs.Running.{HasObeyed}
use Rattle.fx_net.proofs.network.Network.obey_all.Given as goal

abbrev pub invariant-loop-self : goal.invariant-loop-self
invariant-loop-self g l = record {
  obeyed : HasObeyed l.fn.self l.self l.initial.capture l.capture l.initial.schedule l.schedule
      (g.L.Links.put_on l.initial.links) (g.L.Links.put_on l.links);
  faultless : l.self.fault ≡ None;
  going : g.L.Links.failed l.initial.links ≡ false → g.L.Links.failed l.links ≡ false;
}

abbrev pub decreases-loop-self : goal.decreases-loop-self
decreases-loop-self g l = line_budget l.schedule
