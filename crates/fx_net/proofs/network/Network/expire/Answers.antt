use Rattle.std.proofs.Common.{◌≡◌, ◌∙◌, inr, refl, sym, ap}
use Rattle.std.specs.Prelude.{is_some}
use Rattle.fx_tables.specs.Network.{Net, holder_place}
use Rattle.fx_plan.specs.Tables.{net_of}
use Rattle.fx_net.specs.Leaving.{after_least, least_at}
use Rattle.fx_net.specs.Running.{RunningNetwork}
use Rattle.fx_net.proofs.LinesAreDone.{nothing_held}
use Rattle.fx_net.proofs.network.Network.expire.Goals as goal

pub returns-then-not-branch-clause-err : goal.returns-then-not-branch-clause-err
returns-then-not-branch-clause-err c =
    let old = c.args.self.now in
    let index = c.in-Some.index in
    let net : c.net-net.result.now ≡ net_of old.network = c.net-net.ensures.value
    ∙ ap (λ (r : RunningNetwork). net_of r.network) c.self.view_is in
    inr (
      refl,
      λ q there. nothing_held old.contents c.holder_place.result index q c.in-Some.is
          (c.holder_place.ensures ∙ ap (λ (n : Net). holder_place n c.args.name) net ∙ there)
          (sym (c.in_ok-expire_least.ensures.there
          ∙ ap (λ (r : RunningNetwork). is_some (least_at r.contents index)) c.self.view_is)
          ∙ c.if-not-branch.true),
    )

pub returns-clause-ok : goal.returns-clause-ok
returns-clause-ok c =
    let old = c.args.self.now in
    let index = c.in-Some.index in
    let net : c.net-net.result.now ≡ net_of old.network = c.net-net.ensures.value
    ∙ ap (λ (r : RunningNetwork). net_of r.network) c.self.view_is in
    record {
      place = index;
      named = sym (c.holder_place.ensures ∙ ap (λ (n : Net). holder_place n c.args.name) net) ∙ c.in-Some.is;
      there = sym (c.in_ok-expire_least.ensures.there
          ∙ ap (λ (r : RunningNetwork). is_some (least_at r.contents index)) c.self.view_is) ∙ c.if-not-branch.false;
      done_is = c.in_ok-expire_least.ensures.ok ∙ ap (λ (n : Net). after_least n index c.self.inside.contents) net
          ∙ ap (λ (r : RunningNetwork). after_least (net_of old.network) index r.contents) c.self.view_is;
    }
