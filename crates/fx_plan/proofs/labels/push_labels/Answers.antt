use Rattle.std.proofs.Common.{◌≡◌, ℕ, ◌+◌, ◌<◌, List, [], ◌∷◌, ◌++◌, length, get_or, take, ap}
use Rattle.fx_plan.specs.Labels.{Label, device_labels}
use Rattle.fx_plan.proofs.Loops.{one_made, all_made}
use Rattle.fx_plan.proofs.labels.push_labels.Goals as goal

abbrev label_of : List ℕ → List ℕ → Label
label_of device name = record { device = device; name = name }

one_label : {X : Type 0} (name : X → List ℕ) (device : List ℕ) (start : List Label) (things : List X) (n : ℕ) (x : X)
    (named : List ℕ) (before now : List Label) → n < length things → x ≡ get_or things n x → named ≡ name x → before
    ≡ start ++ device_labels name device (take n things) → now ≡ before ++ label_of device named ∷ [] → now ≡ start
    ++ device_labels name device (take (n + 1) things)
one_label name device start things n x named before now lt item is =
    one_made (λ t. label_of device (name t)) start things n x (label_of device named) before now lt item
    (ap (label_of device) is)

pub loop-thing-preserved : goal.loop-thing-preserved
loop-thing-preserved g c =
    one_label g.T.Named.name c.args.device.now c.args.labels.now.items c.args.things.now c.loop-thing.thing-index
    c.thing-item.result c.name-name.result.now c.loop-thing.labels.items c.push.new.self.items
    c.loop-thing-test.true c.thing-item.is c.name-name.ensures c.loop-thing.invariant c.in_ok-push.ensures.items

pub returns : goal.returns
returns g c =
    all_made (λ t. label_of c.args.device.now (g.T.Named.name t)) c.args.labels.now.items c.args.things.now
    c.loop-thing.thing-index c.loop-thing.labels.items c.loop-thing-test.false c.loop-thing.invariant
