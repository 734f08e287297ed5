use Rattle.std.proofs.Common.{◌≡◌, ℕ, ◌+◌, ◌++◌, ◌∙◌, sym, ap, subst, drop, List}
use Rattle.std.proofs.lemmas.List.{drop_all, drop_more}
use Rattle.std.specs.List.{flat_map}
use Rattle.fx_tables.specs.Network.{DeviceEntry}
use Rattle.fx_net.specs.Doings.{Doing, Ended, Empties}
use Rattle.fx_net.proofs.OneAfterAnother.{Completes, completes_some, completed_by}
use Rattle.fx_net.proofs.contents.Contents.empty_caches.Goals as goal

caches : List DeviceEntry → List ℕ
caches ds = flat_map (λ (d : DeviceEntry). d.caches) ds

pub loop-device-preserved : goal.loop-device-preserved
unfolding caches
loop-device-preserved g c =
    let empties : ℕ → Doing = λ place. Ended (Empties c.args.net.now place) in
    let ds = c.args.devices.now in
    let n = c.loop-device.device-index in
    let more = caches (drop (n + 1) ds) in
    let before = g.L.Links.put_on c.args.links.now in
    let put = g.L.Links.put_on c.loop-device.links in
    let rest : caches (drop n ds) ≡ c.caches.result.now ++ more =
    ap caches (drop_more ds n c.device-item.result c.loop-device-test.true)
    ∙ ap (λ (d : DeviceEntry). d.caches ++ more) (sym c.device-item.is)
    ∙ ap (λ (xs : List ℕ). xs ++ more) (sym c.caches.ensures) in
    record {
      done = completes_some empties (caches ds) before c.args.self.now c.caches.result.now more put c.loop-device.self
          (g.L.Links.put_on c.empty_all.new.links) c.empty_all.new.self
          (subst (λ (xs : List ℕ). Completes empties (caches ds) before c.args.self.now xs put c.loop-device.self) rest
          c.loop-device.invariant.done) c.in_ok-empty_all.ensures.ok;
      going = λ h. c.in_ok-empty_all.ensures.going (c.loop-device.invariant.going h);
    }

pub returns-clause-ok : goal.returns-clause-ok
unfolding caches
returns-clause-ok g c =
    completed_by (λ place. Ended (Empties c.args.net.now place)) (caches c.args.devices.now) _
    (g.L.Links.put_on c.args.links.now) c.args.self.now (g.L.Links.put_on c.loop-device.links) c.loop-device.self
    (ap caches (drop_all c.loop-device.device-index c.args.devices.now c.loop-device-test.false))
    c.loop-device.invariant.done
