use Rattle.std.proofs.Common.{◌≡◌, ℕ, suc, ◌+◌, ◌-◌, ap, subst, arith, length, List}
use Rattle.std.specs.List.{range_with_len}
use Rattle.fx_net.specs.Doings.{Doing, CarriesInto, link_places}
use Rattle.fx_net.proofs.OneAfterAnother.{Completes, completes_one}
use Rattle.fx_net.proofs.contents.Contents.carry_all_into.Goals as goal

pub loop-link-preserved : goal.loop-link-preserved
loop-link-preserved g c =
    let net = c.args.net.now in
    let carries : ℕ → Doing = CarriesInto net c.args.process in
    let n = c.loop-link.link in
    let m = length net.links - (n + 1) in
    let before = g.L.Links.put_on c.args.links.now in
    let put = g.L.Links.put_on c.loop-link.links in
    let left : length net.links - n ≡ suc m =
    omega (arith, c.loop-link-test.true, ap (λ (xs : List ℕ). length xs) c.links-link-end.ensures) in
    record {
      done = completes_one carries (link_places net) before c.args.self.now n (range_with_len (n + 1) m) put
          c.loop-link.self (g.L.Links.put_on c.carry_into.new.links) c.carry_into.new.self
          (subst (λ (k : ℕ). Completes carries (link_places net) before c.args.self.now (range_with_len n k) put
          c.loop-link.self) left c.loop-link.invariant.done) c.in_ok-carry_into.ensures.ok;
      going = λ h. c.in_ok-carry_into.ensures.going (c.loop-link.invariant.going h);
    }
