use Rattle.std.proofs.Common.{◌≡◌, ◌∙◌, ◌-◌, List, Some, None, inr, refl, sym, ap, arith}
use Rattle.fx_link.specs.Ongoing.{Ongoing}
use Rattle.fx_tables.specs.Network.{Net}
use Rattle.fx_plan.specs.Tables.{net_of}
use Rattle.fx_net.specs.Arriving.{after_carrying, queued_at}
use Rattle.fx_net.specs.Running.{RunningNetwork}
use Rattle.fx_net.proofs.LinesAreDone.{carries_on, too_few}
use Rattle.fx_net.proofs.network.Network.carry.Goals as goal

pub returns-in-None-clause-err : goal.returns-in-None-clause-err
returns-in-None-clause-err c =
    let old = c.args.self.now in
    let links : c.as_slice.result.now ≡ old.contents.links =
    c.as_slice.ensures.value ∙ ap (λ n. n.contents.links) c.self-inside.view_is
    ∙ ap (λ (r : RunningNetwork). r.contents.links) c.self.view_is in
    inr (
      refl,
      too_few old.contents c.args.link (c.args.link - 1) c.args.octets (omega arith) (λ n there.
          let none : None ≡ Some n = sym c.in-None.is ∙ c.queue_length_of.ensures
          ∙ ap (λ (ls : List Ongoing). queued_at ls (c.args.link - 1)) links ∙ there in
          absurd (cc)),
    )

pub returns-then-queued-octets-clause-err : goal.returns-then-queued-octets-clause-err
returns-then-queued-octets-clause-err c =
    let old = c.args.self.now in
    let queued = c.in-Some.queued in
    let links : c.as_slice.result.now ≡ old.contents.links =
    c.as_slice.ensures.value ∙ ap (λ n. n.contents.links) c.self-inside.view_is
    ∙ ap (λ (r : RunningNetwork). r.contents.links) c.self.view_is in
    inr (
      refl,
      too_few old.contents c.args.link (c.args.link - 1) c.args.octets (omega arith) (λ n there.
          let all : Some queued ≡ Some n = sym c.in-Some.is ∙ c.queue_length_of.ensures
          ∙ ap (λ (ls : List Ongoing). queued_at ls (c.args.link - 1)) links ∙ there in
          let one : queued ≡ n = cc in
          omega (arith, one, c.if-queued-octets.true)),
    )

pub returns-clause-ok : goal.returns-clause-ok
returns-clause-ok c =
    let old = c.args.self.now in
    let index = c.args.link - 1 in
    let inside = c.self.inside.contents in
    let links : c.as_slice.result.now ≡ old.contents.links =
    c.as_slice.ensures.value ∙ ap (λ n. n.contents.links) c.self-inside.view_is
    ∙ ap (λ (r : RunningNetwork). r.contents.links) c.self.view_is in
    carries_on (net_of old.network) c.args.link index c.args.octets c.in-Some.queued old.contents c.carry.new.self
    (omega arith)
    (sym (c.queue_length_of.ensures ∙ ap (λ (ls : List Ongoing). queued_at ls index) links) ∙ c.in-Some.is)
    (omega (arith, c.if-queued-octets.false))
    (c.in_ok-carry.ensures.ok
    ∙ ap (λ (n : Net). after_carrying n index c.args.octets inside)
    (c.net.ensures.value ∙ ap (λ (r : RunningNetwork). net_of r.network) c.self.view_is)
    ∙ ap (λ (r : RunningNetwork). after_carrying (net_of old.network) index c.args.octets r.contents) c.self.view_is)
