use Rattle.std.proofs.Common.{◌≡◌, ℕ, ◌+◌, ◌<◌, List, [], ◌++◌, length, get_or, take, ap, ◌∙◌}
use Rattle.fx_topology.specs.declared.network_device.NetworkDevice.{NetworkDevice}
use Rattle.fx_plan.specs.Labels.{Label, device_labels, labels_of}
use Rattle.fx_plan.proofs.Loops.{more_made, all_more_made}
use Rattle.fx_plan.proofs.labels.labels_of.Goals as goal

one_device : {X : Type 0} (of : NetworkDevice → List X) (name : X → List ℕ) (devices : List NetworkDevice) (n : ℕ)
    (x : NetworkDevice) (things : List X) (before now : List Label) → n < length devices → x ≡ get_or devices n x
    → things ≡ of x → before ≡ labels_of of name (take n devices) → now ≡ before ++ device_labels name x.name things
    → now ≡ labels_of of name (take (n + 1) devices)
one_device of name devices n x things before now lt item is done push =
    more_made (λ (x : NetworkDevice). device_labels name x.name (of x)) [] devices n x before now lt item done
    (push ∙ ap (λ ts. before ++ device_labels name x.name ts) is)

pub loop-device-preserved : goal.loop-device-preserved
loop-device-preserved g c = record {
  labels = one_device g.T.Thing.things g.T.Named.name c.args.devices.now c.loop-device.device-index c.device-item.result
      c.things-things.result.now c.loop-device.labels.items c.push_group.new.labels.items c.loop-device-test.true
      c.device-item.is c.things-things.ensures c.loop-device.invariant.labels c.in_ok-push_group.ensures.labels;
  groups = c.in_ok-push_group.ensures.groups c.loop-device.invariant.groups;
}

pub returns : goal.returns
returns g c =
    all_more_made (λ (x : NetworkDevice). device_labels g.T.Named.name x.name (g.T.Thing.things x)) []
    c.args.devices.now c.loop-device.device-index c.loop-device.labels.items c.loop-device-test.false
    c.loop-device.invariant.labels
