-- What completes the rest completes the whole.
use Rattle.std.proofs.Common.{◌≡◌, ◌-◌, length, false}
use Rattle.std.specs.List.{range_with_len}
use Rattle.fx_net.specs.Doings.{CarriesInto}
use Rattle.fx_net.proofs.OneAfterAnother.{Completes}
use Rattle.fx_net.proofs.contents.Contents.carry_all_into.Given as goal

abbrev pub invariant-loop-link : goal.invariant-loop-link
invariant-loop-link g l = record {
  done : Completes (CarriesInto l.net l.process) (range_with_len 0 (length l.net.links))
      (g.L.Links.put_on l.initial.links) l.fn.self (range_with_len l.link (length l.net.links - l.link))
      (g.L.Links.put_on l.links) l.self;
  going : g.L.Links.failed l.initial.links ≡ false → g.L.Links.failed l.links ≡ false;
}
