use Rattle.std.proofs.Common.{◌≡◌, ℕ, ◌+◌, ◌<◌, List, [], ◌∷◌, ◌++◌, length, get_or, take, map, ap, ◌∙◌}
use Rattle.fx_plan.specs.Labels.{Label, place}
use Rattle.fx_plan.proofs.Loops.{one_made, all_made}
use Rattle.fx_plan.proofs.labels.places.Goals as goal

one_place : {X : Type 0} (name : X → List ℕ) (labels : List Label) (device : List ℕ) (things : List X) (n : ℕ) (x : X)
    (named : List ℕ) (y : ℕ) (before now : List ℕ) → n < length things → x ≡ get_or things n x → named ≡ name x → y
    ≡ place labels device named → before ≡ map (λ t. place labels device (name t)) (take n things) → now ≡ before ++ y
    ∷ [] → now ≡ map (λ t. place labels device (name t)) (take (n + 1) things)
one_place name labels device things n x named y before now lt item is made =
    one_made (λ t. place labels device (name t)) [] things n x y before now lt item (made ∙ ap (place labels device) is)

pub loop-thing-preserved : goal.loop-thing-preserved
loop-thing-preserved g c =
    one_place g.T.Named.name c.args.labels.now c.args.device.now c.args.things.now c.loop-thing.thing-index
    c.thing-item.result c.name.result.now c.place.result c.loop-thing.places.items c.push.new.self.items
    c.loop-thing-test.true c.thing-item.is c.name.ensures c.place.ensures c.loop-thing.invariant
    c.in_ok-push.ensures.items

pub returns : goal.returns
returns g c =
    all_made (λ t. place c.args.labels.now c.args.device.now (g.T.Named.name t)) [] c.args.things.now
    c.loop-thing.thing-index c.loop-thing.places.items c.loop-thing-test.false c.loop-thing.invariant
