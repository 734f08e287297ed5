-- Some frames were read, and nothing but the contents has changed.
use Rattle.std.proofs.Common.{◌≡◌, false}
use Rattle.fx_pcap.specs.Captures.{frame_budget}
use Rattle.fx_net.specs.Running.{HasGoneOn, HasRead}
use Rattle.fx_net.proofs.network.Network.read_rest.Given as goal

abbrev pub invariant-loop-met : goal.invariant-loop-met
invariant-loop-met g l = record {
  read : HasRead l.fn.self l.self l.initial.capture l.capture (g.L.Links.put_on l.initial.links)
      (g.L.Links.put_on l.links);
  gone : HasGoneOn l.initial.capture l.capture;
  rest : l.self ≡ record l.fn.self { contents = l.self.contents };
  going : g.L.Links.failed l.initial.links ≡ false → g.L.Links.failed l.links ≡ false;
}

abbrev pub decreases-loop-met : goal.decreases-loop-met
decreases-loop-met g l = frame_budget l.capture
